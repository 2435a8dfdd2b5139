-- Laws of `count`: how often a slot stands in a list of entries after a push, a removal and a take. Assumes nothing.
use mathlib.Core.Path.{◌≡◌, refl, sym, ap, ◌∙◌}
use mathlib.Core.Bool.{Bool, cond}
use mathlib.Core.List.{List, [], ◌∷◌, ◌++◌}
use Prim.Native.Nat.{ℕ, suc, ◌+◌, ◌≤◌, ◌<◌}
use native.Mathlib.Omega.{arith}
use borrow.Author.Tests.{eq-eqb, ne_eqb, eqb-true, eqb-false}
use lib.Dec.{eqb}
use lib.ListN.{length, get_or, take, drop}
use lib.Seq.{split_at}
use Rattle.records.proofs.Cases.{split}
use Rattle.records.specs.Lists.{count}
use Rattle.queue.specs.Entries.{without, taken_at}

pub count_append : (slot : ℕ) (a b : List ℕ) → count slot (a ++ b) ≡ count slot a + count slot b
unfolding count
count_append slot [] b = omega arith
count_append slot (e ∷ a) b = omega (arith, count_append slot a b)

pub count_one : (slot : ℕ) → count slot (slot ∷ []) ≡ 1
unfolding count
count_one slot = rw (eq-eqb slot slot refl) (omega arith)

pub count_other : (slot e : ℕ) → (slot ≡ e → ⊥) → count slot (e ∷ []) ≡ 0
unfolding count
count_other slot e apart = rw (ne_eqb e slot (λ same. apart (sym same))) (omega arith)

pub count-taken : (slot place : ℕ) (es : List ℕ) → place < length es → count slot (taken_at place es) + count slot (get_or es place 0 ∷ []) ≡ count slot es
unfolding taken_at
count-taken slot place es l =
    let e : ℕ = get_or es place 0 in
    let f : List ℕ = take place es in
    let t : List ℕ = drop (suc place) es in
    let whole : count slot es ≡ count slot (f ++ e ∷ t) = ap (count slot) (split_at es place 0 l) in
    omega (arith, count_append slot t f, count_append slot f (e ∷ t), count_append slot (e ∷ []) t)

pub count-entry : (place : ℕ) (es : List ℕ) → place < length es → 1 ≤ count (get_or es place 0) es
count-entry place es l = omega (arith, count-taken (get_or es place 0) place es l, count_one (get_or es place 0))

pub count-without-same : (slot : ℕ) (es : List ℕ) → count slot (without slot es) ≡ 0
unfolding count without
count-without-same slot [] = refl
count-without-same slot (e ∷ es) =
    split (λ (b : Bool). count slot (cond b (without slot es) (e ∷ without slot es)) ≡ 0) (eqb e slot)
    (λ _. count-without-same slot es)
    (λ no. rw no (omega (arith, count-without-same slot es)))

pub count-without_other : (slot other : ℕ) (es : List ℕ) → (other ≡ slot → ⊥) → count other (without slot es) ≡ count other es
unfolding count without
count-without_other slot other [] apart = refl
count-without_other slot other (e ∷ es) apart =
    split (λ (b : Bool). count other (cond b (without slot es) (e ∷ without slot es)) ≡ count other (e ∷ es)) (eqb e slot)
    (λ yes. rw (ne_eqb e other (λ same. apart (sym same ∙ eqb-true e slot yes))) (omega (arith, count-without_other slot other es apart)))
    (λ _. omega (arith, count-without_other slot other es apart))

pub count-without_le : (slot other : ℕ) (es : List ℕ) → count other (without slot es) ≤ count other es
count-without_le slot other es =
    split (λ _. count other (without slot es) ≤ count other es) (eqb other slot)
    (λ is. rw (eqb-true other slot is) (omega (arith, count-without-same slot es)))
    (λ differs. omega (arith, count-without_other slot other es (eqb-false other slot differs)))

pub length_without : (slot : ℕ) (es : List ℕ) → length (without slot es) + count slot es ≡ length es
unfolding count without
length_without slot [] = refl
length_without slot (e ∷ es) =
    split (λ (b : Bool). length (cond b (without slot es) (e ∷ without slot es)) + (cond b 1 0 + count slot es) ≡ suc (length es)) (eqb e slot)
    (λ _. omega (arith, length_without slot es))
    (λ _. omega (arith, length_without slot es))
