-- Lists and tests on them, for the definitions of the crates above. None of it is about tasks.
use Rattle.std.specs.Prelude.{Bool, true, false, cond, ◌&&◌, ◌||◌, List, [], ◌∷◌, ℕ, zero, suc, ◌+◌, eqb}

-- what holds of each element
unfoldable pub Each : {A : Type 0} → (A → Type 0) → List A → Type 0
Each P [] = Unit
Each P (a ∷ rest) = P a × Each P rest

-- every element passes the test; every number below n does; some element does
unfoldable pub every : {A : Type 0} → (A → Bool) → List A → Bool
every test [] = true
every test (a ∷ rest) = test a && every test rest

unfoldable pub every_below : ℕ → (ℕ → Bool) → Bool
every_below zero test = true
every_below (suc n) test = test n && every_below n test

unfoldable pub any_of : {A : Type 0} → (A → Bool) → List A → Bool
any_of test [] = false
any_of test (a ∷ rest) = test a || any_of test rest

-- the place of the first element that passes, counted from 0; the length where none passes
unfoldable pub first_place : {A : Type 0} → (A → Bool) → List A → ℕ
first_place test [] = zero
first_place test (a ∷ rest) = cond (test a) zero (suc (first_place test rest))

-- how often a number stands in the list
unfoldable pub count : ℕ → List ℕ → ℕ
count n [] = 0
count n (m ∷ rest) = cond (eqb m n) 1 0 + count n rest

-- all but the last element
unfoldable pub but_last : {A : Type 0} → List A → List A
but_last [] = []
but_last (a ∷ []) = []
but_last (a ∷ next ∷ rest) = a ∷ but_last (next ∷ rest)
