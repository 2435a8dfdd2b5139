-- The first place that passes a test, as a search through the list finds it: in one go, or place by place. Assumes nothing.
use Rattle.std.proofs.Common.{◌≡◌, ℕ, ◌<◌, ◌≤◌, Bool, true, false, cond, ltb, leb, List, length, get_or, refl, sym, ap, ◌∙◌, arith, lt-ltb, le-ltb}
use borrow.Author.Tests.{leb-true, leb-false}
use Rattle.std.specs.Prelude.{Option, None, Some}
use denote.Param.Members.{Mut, Called}
use Rattle.std.specs.Iterator.{FindsPosition}
use Rattle.std.specs.List.{position_or_len}
use Rattle.std.proofs.lemmas.Iterator.{YieldsList}
use Rattle.std.proofs.lemmas.Iterator.Search.{position_from_yields_List}
use Rattle.std.proofs.lemmas.List.Recursion.{is_position_or_len}
use Rattle.std.proofs.lemmas.List.Sums.{position_or_len_is}
use Rattle.records.proofs.Cases.{split}
use Rattle.records.specs.Lists.{first_place}
use Rattle.rules.specs.Queries.{core_below}

module _ {A : Type 0} (test : A → Bool) (l : List A) where
  is_first : first_place test l ≡ position_or_len test l
  unfolding first_place
  is_first = is_position_or_len (first_place test) test refl (λ x xs. ap (cond (test x) 0) (omega arith)) l

  -- nothing passes before place k, and what stands there does, if anything does
  pub first_at : (k : ℕ) (d : A) → k ≤ length l → ((j : ℕ) → j < k → test (get_or l j d) ≡ false) → (k < length l → test (get_or l k d) ≡ true) →
      first_place test l ≡ k
  first_at k d there before here = is_first ∙ position_or_len_is test l k d there before here

-- what `position` answers on a list of 64, by a closure that computes the test
pub searched : {S A B F : Type 0} {steps : S → Option A → S → Type 0} {v : A → B} {g : Mut F (A × Unit {0}) Bool} {s : S} {l : List B}
    (test : B → Bool) →
    length l ≡ 64 → (u : S) (f : F) (r : Option ℕ) → FindsPosition steps g s f r u → YieldsList steps v s l →
    ((x : A) (b : Bool) (q : F) → Called g f (x, tt) b q → (q ≡ f) × (b ≡ test (v x))) → r ≡ core_below (first_place test l)
searched {l = l} test whole u f r ran list calls =
    position_from_yields_List test u f r ran list calls
    ∙ ap (λ (k : ℕ). cond (ltb k (length l)) (Some k) None) (sym (is_first test l))
    ∙ split (λ (b : Bool). cond (ltb (first_place test l) (length l)) (Some (first_place test l)) None ≡ cond b None (Some (first_place test l)))
    (leb 64 (first_place test l))
    (λ past. rw (le-ltb (first_place test l) (length l) (omega (arith, leb-true 64 (first_place test l) past))) refl)
    (λ low. rw (lt-ltb (first_place test l) (length l) (omega (arith, leb-false 64 (first_place test l) low))) refl)
