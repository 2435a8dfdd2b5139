-- Laws of `window`, the part of a ring that a queue's entries stand in. In order: its length, where it begins, a place in it, one more at its
-- end, what is left of it from a place on, a store outside it and at its end; then its front: read, leaving, and going to the tail.
-- Assumes nothing.
use mathlib.Core.Path.{◌≡◌, refl, sym, ap, ◌∙◌}
use mathlib.Core.List.{List, [], ◌∷◌, ◌++◌}
use Prim.Native.Nat.{ℕ, zero, suc, ◌+◌, ◌-◌, ◌%◌, ◌≤◌, ◌<◌, suc-le-suc}
use native.Mathlib.Nat.{not-suc-le-zero, le_of_suc-le-suc, add-zero}
use native.Mathlib.Omega.{arith}
use lib.ListN.{length, get_or, set, drop}
use lib.Seq.{get_or-set_same, get_or-set_other}
use Rattle.queue.specs.Stored.{window}

next_place : (h k : ℕ) → suc h + k ≡ h + suc k
next_place h k = omega arith

module _ (r : List ℕ) where
  pub length_window : (h n : ℕ) → length (window r h n) ≡ n
  unfolding window
  length_window h zero = refl
  length_window h (suc n) = ap suc (length_window (suc h) n)

  -- places are counted modulo 64
  pub window_round : (g h n : ℕ) → g % 64 ≡ h % 64 → window r g n ≡ window r h n
  unfolding window
  window_round g h zero e = refl
  window_round g h (suc n) e = λ i. get_or r (e i) 0 ∷ window_round (suc g) (suc h) n (omega arith) i

  pub window_at : (h n k : ℕ) → k < n → get_or (window r h n) k 0 ≡ get_or r ((h + k) % 64) 0
  unfolding window
  window_at h zero k l = absurd (not-suc-le-zero l)
  window_at h (suc n) zero l = ap (λ (p : ℕ). get_or r (p % 64) 0) (sym (add-zero h))
  window_at h (suc n) (suc k) l =
      window_at (suc h) n k (le_of_suc-le-suc l) ∙ ap (λ (p : ℕ). get_or r (p % 64) 0) (next_place h k)

  -- one more at the end
  pub window_more : (h n : ℕ) → window r h (suc n) ≡ window r h n ++ get_or r ((h + n) % 64) 0 ∷ []
  unfolding window
  window_more h zero = ap (λ (p : ℕ). get_or r (p % 64) 0 ∷ []) (sym (add-zero h))
  window_more h (suc n) =
      ap (λ (l : List ℕ). get_or r (h % 64) 0 ∷ l)
      (window_more (suc h) n ∙ ap (λ (p : ℕ). window r (suc h) n ++ get_or r (p % 64) 0 ∷ []) (next_place h n))

  -- what is left of it from place k on: the number there, and what is left behind it
  pub window_next : (h n k : ℕ) → k < n → window r (h + k) (n - k) ≡ get_or r ((h + k) % 64) 0 ∷ window r (h + (k + 1)) (n - (k + 1))
  unfolding window
  window_next h n k l =
      let fewer : n - k ≡ suc (n - (k + 1)) = omega arith in
      let further : suc (h + k) ≡ h + (k + 1) = omega arith in
      ap (window r (h + k)) fewer ∙ ap (λ (p : ℕ). get_or r ((h + k) % 64) 0 ∷ window r p (n - (k + 1))) further

  -- a store outside it
  pub window_apart : (h n p v : ℕ) → ((j : ℕ) → j < n → (h + j) % 64 ≡ p → ⊥) → window (set r p v) h n ≡ window r h n
  unfolding window
  window_apart h zero p v apart = refl
  window_apart h (suc n) p v apart = λ i.
      get_or-set_other r p (h % 64) v 0 (λ e. apart 0 (omega arith) (ap (λ (k : ℕ). k % 64) (add-zero h) ∙ e)) i
      ∷ window_apart (suc h) n p v (λ j l e. apart (suc j) (suc-le-suc l) (ap (λ (k : ℕ). k % 64) (sym (next_place h j)) ∙ e)) i

-- a store at its end
pub window_store : (r : List ℕ) (h n v : ℕ) → length r ≡ 64 → n < 64 → window (set r ((h + n) % 64) v) h (suc n) ≡ window r h n ++ v ∷ []
window_store r h n v whole l =
    window_more (set r ((h + n) % 64) v) h n
    ∙ λ i. window_apart r h n ((h + n) % 64) v (λ j k e. omega arith) i ++ get_or-set_same r ((h + n) % 64) v 0 (omega arith) i ∷ []

-- its first number is at its head
pub window_front : (r : List ℕ) (h n : ℕ) {e : ℕ} {es : List ℕ} → h < 64 → window r h n ≡ e ∷ es → get_or r h 0 ≡ e
unfolding window
window_front r h zero l w = absurd (omega (arith, ap length w))
window_front r h (suc n) l w = ap (λ (p : ℕ). get_or r p 0) (omega arith) ∙ ap (λ (es : List ℕ). get_or es 0 0) w

-- the front leaves
pub window-behind : (r : List ℕ) (h n : ℕ) {e : ℕ} {es : List ℕ} → window r h n ≡ e ∷ es → window r ((h + 1) % 64) (n - 1) ≡ es
unfolding window
window-behind r h zero w = absurd (omega (arith, ap length w))
window-behind r h (suc n) w =
    let less : suc n - 1 ≡ n = omega arith in
    ap (window r ((h + 1) % 64)) less ∙ window_round r ((h + 1) % 64) (suc h) n (omega arith) ∙ ap (drop 1) w

-- the front goes to the tail
pub window-turn : (r : List ℕ) (h n : ℕ) {e : ℕ} {es : List ℕ} → length r ≡ 64 → h < 64 → n ≤ 64 → window r h n ≡ e ∷ es
    → window (set r ((h + n) % 64) (get_or r h 0)) ((h + 1) % 64) n ≡ es ++ e ∷ []
unfolding window
window-turn r h zero whole l m w = absurd (omega (arith, ap length w))
window-turn r h (suc n) whole l m w =
    let front : ℕ = get_or r h 0 in
    window_round (set r ((h + suc n) % 64) front) ((h + 1) % 64) (suc h) (suc n) (omega arith)
    ∙ ap (λ (p : ℕ). window (set r (p % 64) front) (suc h) (suc n)) (sym (next_place h n))
    ∙ window_store r (suc h) n front whole (omega arith)
    ∙ λ i. drop 1 (w i) ++ window_front r h (suc n) l w i ∷ []
