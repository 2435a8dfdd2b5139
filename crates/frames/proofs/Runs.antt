-- Numbers stored one behind the other, each in its width: what a run of stores leaves is what `written` says.
-- Assumes nothing.
use mathlib.Core.Path.{◌≡◌, sym, ap, ◌∙◌}
use mathlib.Core.List.{List, [], ◌++◌, append-nil}
use Prim.Native.Nat.{ℕ, ◌+◌}
use lib.ListN.{length}
use lib.Seq.{sets}
use Rattle.frames.specs.Bytes.{bytes_of}
use Rattle.frames.proofs.Numbers.{length-bytes_of}
use Rattle.frames.proofs.Stores.{sets_append}

-- some bytes, then others behind them
pub behind : (o : List ℕ) {o₁ o₂ : List ℕ} (at next : ℕ) (a b : List ℕ) → o₁ ≡ sets o at a → next ≡ at + length a → o₂ ≡ sets o₁ next b
    → o₂ ≡ sets o at (a ++ b)
behind o at next a b e n more = more ∙ (λ i. sets (e i) (n i) b) ∙ sym (sets_append o at a b)

-- nothing behind them
pub alone : (o : List ℕ) {o₁ : List ℕ} (at : ℕ) (a : List ℕ) → o₁ ≡ sets o at a → o₁ ≡ sets o at (a ++ [])
alone o at a e = e ∙ ap (sets o at) (sym (append-nil a))

-- a number, then what is stored behind it
pub run_on : (o : List ℕ) {o₁ o₂ : List ℕ} (at width next : ℕ) {x y : ℕ} (rest : List ℕ) → o₁ ≡ sets o at (bytes_of width x) → x ≡ y
    → next ≡ at + width → o₂ ≡ sets o₁ next rest → o₂ ≡ sets o at (bytes_of width y ++ rest)
run_on o at width next {y = y} rest e v n =
    behind o at next (bytes_of width y) rest (e ∙ (λ i. sets o at (bytes_of width (v i)))) (n ∙ ap (λ (w : ℕ). at + w) (sym (length-bytes_of width y)))

-- the last number of a run
pub run_end : (o : List ℕ) {o₁ : List ℕ} (at width : ℕ) {x y : ℕ} → o₁ ≡ sets o at (bytes_of width x) → x ≡ y → o₁ ≡ sets o at (bytes_of width y ++ [])
run_end o at width {y = y} e v = alone o at (bytes_of width y) (e ∙ (λ i. sets o at (bytes_of width (v i))))
