-- A list whose first k elements are mapped, as a loop that maps a list in its place leaves it. Assumes nothing.
use Rattle.std.proofs.Common.{◌≡◌, ℕ, zero, suc, ◌+◌, ◌≤◌, List, [], ◌∷◌, map, length, get_or, set, sym, refl, ap, ◌∙◌, add-one, arith}

module _ {A : Type 0} (f : A → A) where
  unfoldable pub mapped : ℕ → List A → List A
  mapped zero l = l
  mapped (suc k) [] = []
  mapped (suc k) (a ∷ l) = f a ∷ mapped k l

  pub mapped_begin : (l : List A) → l ≡ mapped 0 l
  unfolding mapped
  mapped_begin l = refl

  map_next : (k : ℕ) (l : List A) (d : A) → set (mapped k l) k (f (get_or (mapped k l) k d)) ≡ mapped (suc k) l
  unfolding mapped
  map_next zero [] d = refl
  map_next zero (a ∷ l) d = refl
  map_next (suc k) [] d = refl
  map_next (suc k) (a ∷ l) d = ap (λ (r : List A). f a ∷ r) (map_next k l d)

  -- element k is mapped: on to the next
  pub mapped_on : (k : ℕ) (l : List A) (d : A) {now : List A} {r : A} → now ≡ mapped k l → r ≡ f (get_or now k d) → set now k r ≡ mapped (k + 1) l
  mapped_on k l d {now} so_far r-is =
      (λ i. set now k (r-is i))
      ∙ ap (λ (m : List A). set m k (f (get_or m k d))) so_far
      ∙ map_next k l d
      ∙ ap (λ (n : ℕ). mapped n l) (sym (add-one k))

  -- the list ends: all are mapped
  all_mapped : (k : ℕ) (l : List A) → length l ≤ k → mapped k l ≡ map f l
  unfolding mapped
  all_mapped zero [] past = refl
  all_mapped zero (a ∷ l) past = absurd (omega arith)
  all_mapped (suc k) [] past = refl
  all_mapped (suc k) (a ∷ l) past = ap (λ (r : List A). f a ∷ r) (all_mapped k l (omega arith))

  pub mapped_ended : (k : ℕ) (l : List A) {now : List A} → now ≡ mapped k l → length l ≤ k → now ≡ map f l
  mapped_ended k l so_far past = so_far ∙ all_mapped k l past
