-- Tests one after the other, a loop that tests every number below 64, a test of every element of a list, and a sum of bytes that are to be 0.
-- Assumes nothing.
use mathlib.Core.Path.{◌≡◌, refl, sym, ap, ◌∙◌}
use mathlib.Core.Bool.{Bool, true, false, ◌&&◌, and-false, and-true, and_assoc}
use mathlib.Core.List.{List, [], ◌∷◌}
use Prim.Native.Nat.{ℕ, zero, suc, ◌+◌, ◌≤◌, ◌<◌}
use native.Mathlib.Nat.{zero-add}
use native.Mathlib.Numerals.{add-one}
use native.Mathlib.Omega.{arith}
use borrow.Author.Tests.{ltb-true, ltb-false, ne_eqb}
use lib.Dec.{ltb, eqb}
use lib.ListN.{length, get_or}
use Rattle.std.specs.List.{fold, sum}
use Rattle.std.specs.Bool.{Decides}
use Rattle.std.proofs.lemmas.Bool.Decides.{same_from_decides}
use mathlib.Core.Logic.Iff
use Rattle.records.proofs.Cases.{split}
use Rattle.rules.proofs.Says.{below}
use Rattle.records.specs.Lists.{every, every_below}
use Rattle.frames.specs.Private.{all_zero}

-- one more test behind those before it, whose answer v is; it is made where they passed
module _ {v w a : Bool} (so : v ≡ a) where
  pub passed_on : {b : Bool} → v ≡ true → w ≡ b → w ≡ a && b
  passed_on h e = rw (sym so ∙ h) e

  pub failed_on : (b : Bool) → v ≡ false → w ≡ v → w ≡ a && b
  failed_on b h e = rw (sym so ∙ h) (e ∙ h)

-- ---- the loops: every number so far has passed

pub record Passing (test : ℕ → Bool) (k : ℕ) : Type 0 where
  pub inside : k ≤ 64
  pub so_far : every_below k test ≡ true

pub passing_begin : (test : ℕ → Bool) → Passing test 0
unfolding every_below
passing_begin test = record { inside = omega arith; so_far = refl }

-- one that fails is enough
fails-below : (n k : ℕ) (test : ℕ → Bool) → k < n → test k ≡ false → every_below n test ≡ false
unfolding every_below
fails-below zero k test h e = absurd (omega arith)
fails-below (suc n) k test h e =
    split (λ _. every_below (suc n) test ≡ false) (ltb k n)
    (λ low. rw (fails-below n k test (ltb-true k n low) e, and-false))
    (λ high. let last : n ≡ k = omega (arith, ltb-false k n high) in rw (last, e))

pub passing_failed : (test : ℕ → Bool) {k : ℕ} {r : Bool} → k < 64 → r ≡ test k → r ≡ false → every_below 64 test ≡ false
passing_failed test {k} h is fail = fails-below 64 k test h (sym is ∙ fail)

module _ {test : ℕ → Bool} {k : ℕ} (so : Passing test k) where
  pub passing_on : {r : Bool} → k < 64 → r ≡ test k → r ≡ true → Passing test (k + 1)
  unfolding every_below
  passing_on h is passes = rw (add-one k) (record { inside = omega arith; so_far = rw (sym is ∙ passes, so.so_far) })

-- every number below n passes, where every element of a list did
pub every_as : {test : ℕ → Bool} {n : ℕ} {r : Bool} (seen : ℕ → Bool) (l : List ℕ) → length l ≡ n →
    ((k : ℕ) → k < n → seen (get_or l k 0) ≡ test k) →
    Decides r ((k : ℕ) → k < length l → seen (get_or l k 0) ≡ true) → r ≡ every_below n test
every_as {test} {n = n} {r} seen l long same seen-is =
    let all = below {test = test} {P = λ k. test k ≡ true} (λ k. Iff.rfl) {n = n} in
    same_from_decides r _ seen-is (
      λ e k h. let inside : k < n = omega (arith, h, long) in same k inside ∙ all.0 e k inside,
      λ each-is. all.1 (λ k h. sym (same k h) ∙ each-is k (omega (arith, h, long))),
    )

-- ---- bytes that are to be 0

-- a sum is 0 where both its parts are
sum_zero : (a b : ℕ) → eqb (a + b) 0 ≡ eqb a 0 && eqb b 0
sum_zero zero b = rw (zero-add b)
sum_zero (suc a) b = ne_eqb (suc a + b) 0 (λ e. omega (arith, e)) ∙ sym (rw (ne_eqb (suc a) 0 (λ e. omega (arith, e))))

-- and one of many where all are
zero_sum_from : (a : ℕ) (bytes : List ℕ) → eqb (fold ◌+◌ a bytes) 0 ≡ eqb a 0 && all_zero bytes
unfolding every
zero_sum_from a [] = sym (and-true (eqb a 0))
zero_sum_from a (b ∷ bytes) =
    zero_sum_from (a + b) bytes ∙ ap (λ (t : Bool). t && all_zero bytes) (sum_zero a b) ∙ and_assoc (eqb a 0) (eqb b 0) (all_zero bytes)

pub zero_sum : (bytes : List ℕ) → eqb (sum bytes) 0 ≡ all_zero bytes
zero_sum bytes = zero_sum_from 0 bytes
