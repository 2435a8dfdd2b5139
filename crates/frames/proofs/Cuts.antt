-- The first line of a text (`line_of`): how long it is, and that a search for its end finds it. Assumes nothing.
use mathlib.Core.Bool.{Bool, true, false, cond}
use mathlib.Core.List.{List, [], ◌∷◌}
use mathlib.Core.Path.{◌≡◌, refl, ap, sym, ◌∙◌}
use Prim.Native.Nat.{ℕ, suc, ◌+◌, ◌-◌, ◌≤◌}
use native.Mathlib.Omega.{arith}
use borrow.Author.Tests.{ltb-false}
use lib.Dec.{eqb, ltb}
use lib.ListN.{length, take, drop, length-drop}
use lib.Seq.{take_all}
use Rattle.std.specs.Prelude.{Option, None, Some, unwrap_or}
use Rattle.std.specs.List.{position, position_or_len}
use Rattle.frames.specs.Lines.{newline, line_of}

-- a test's two ways, where the statement doesn't name the test
pub test : {P : Type 0} (b : Bool) → (b ≡ true → P) → (b ≡ false → P) → P
test true t f = t refl
test false t f = f refl

-- ---- the first line

line_in : (text : List ℕ) → length (line_of text) ≤ length text
unfolding line_of
line_in [] = omega arith
line_in (b ∷ text) = test (eqb b newline) (λ e. rw e (omega arith)) (λ e. rw e (omega (arith, line_in text)))

pub line-within : (text : List ℕ) (at : ℕ) {line : List ℕ} → line ≡ line_of (drop at text) → length line ≤ length text - at
line-within text at is = omega (arith, ap length is, line_in (drop at text), length-drop at text)

-- ---- its end, looked for

abbrev pub is_newline : ℕ → Bool
is_newline b = eqb b newline

line-front : (text : List ℕ) → take (position_or_len is_newline text) text ≡ line_of text
unfolding line_of
line-front [] = refl
line-front (b ∷ text) =
    test (eqb b newline) (λ e. rw e refl)
    (λ e.
    let more : 1 + position_or_len is_newline text ≡ suc (position_or_len is_newline text) = omega arith in
    rw (e, more) (ap (λ (l : List ℕ). b ∷ l) (line-front text)))

-- up to where the search found it, or all of the text
module _ (text : List ℕ) where
  cut_at : (b : Bool) → ltb (position_or_len is_newline text) (length text) ≡ b →
      take (unwrap_or (cond b (Some (position_or_len is_newline text)) None) (length text)) text ≡ line_of text
  cut_at true _ = line-front text
  cut_at false none =
      take_all (length text) text (omega arith) ∙ sym (take_all (position_or_len is_newline text) text (ltb-false _ _ none)) ∙ line-front text

  pub line_cut : (found : Option ℕ) {n : ℕ} → found ≡ position is_newline text → n ≡ unwrap_or found (length text) → take n text ≡ line_of text
  line_cut found is n_is =
      ap (λ (k : ℕ). take k text) (n_is ∙ ap (λ (o : Option ℕ). unwrap_or o (length text)) is)
      ∙ cut_at (ltb (position_or_len is_newline text) (length text)) refl
