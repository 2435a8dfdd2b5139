-- Laws of a queue's rules on its list of entries: a push, the entry at a place, taking it, removal, the 64 places. Assumes nothing.
use mathlib.Core.Path.{◌≡◌, refl, ap}
use mathlib.Core.Bool.{Bool, true, false, cond, not, ◌&&◌}
use mathlib.Core.List.{List, [], ◌∷◌, ◌++◌}
use Prim.Native.Nat.{ℕ, suc, ◌-◌, ◌≤◌, ◌<◌}
use native.Mathlib.Omega.{arith}
use borrow.Author.Tests.{lt-ltb, le-ltb, eq-eqb, ne_eqb, ltb-true, ltb-false}
use lib.Dec.{ltb}
use lib.ListN.{length, get_or, drop, replicate, length-append, length-replicate, drop_of_length-le}
use lib.Seq.{take_all, take-append_seam}
use Rattle.records.specs.declared.ids.Slot.{Slot}
use Rattle.std.specs.Prelude.{Option, None, Some}
use Rattle.records.proofs.Cases.{split}
use Rattle.queue.specs.Entries.{full, takes, pushed, without, entry_at, taken_at, places}

-- ---- a push

-- a slot of the table is refused only where 64 entries stand
pub takes-slot : (slot : ℕ) (es : List ℕ) → slot < 64 → takes slot es ≡ not (full es)
takes-slot slot es l = ap (λ (b : Bool). b && not (full es)) (lt-ltb slot 64 l)

pub pushed-taken : (slot : ℕ) (es : List ℕ) → takes slot es ≡ true → pushed slot es ≡ es ++ slot ∷ []
unfolding pushed
pushed-taken slot es e = rw e

pub pushed-refused : (slot : ℕ) (es : List ℕ) → takes slot es ≡ false → pushed slot es ≡ es
unfolding pushed
pushed-refused slot es e = rw e

-- ---- the entry at a place

pub entry_at_in : (place : ℕ) (es : List ℕ) (slot : Slot) → place < length es → get_or es place 0 ≡ slot.0 → entry_at place es ≡ Some slot
unfolding entry_at
entry_at_in place es slot l is = rw (lt-ltb place (length es) l) (ap (λ (e : ℕ). Some (record { 0 = e })) is)

pub entry_at-past : (place : ℕ) (es : List ℕ) → length es ≤ place → entry_at place es ≡ None
unfolding entry_at
entry_at-past place es l = rw (le-ltb place (length es) l)

-- and back: a slot that is answered stands there, and where none is answered the place lies past the tail
pub entry_at-some : (place : ℕ) (es : List ℕ) (slot : Slot) → entry_at place es ≡ Some slot → (place < length es) × (get_or es place 0 ≡ slot.0)
unfolding entry_at
entry_at-some place es slot =
    split (λ (b : Bool). ◌≡◌ {A = Option Slot} (cond b (Some (record { 0 = get_or es place 0 })) None) (Some slot) → (place < length es) × (get_or es place 0 ≡ slot.0)) (ltb place (length es))
    (λ t e. let same : ◌≡◌ {A = Slot} (record { 0 = get_or es place 0 }) slot = cc in (ltb-true place (length es) t, ap (λ (s : Slot). s.0) same))
    (λ f e. let never : ◌≡◌ {A = ℕ} 0 1 = cc in absurd (omega arith))

pub entry_at-none : (place : ℕ) (es : List ℕ) → entry_at place es ≡ None → length es ≤ place
unfolding entry_at
entry_at-none place es =
    split (λ (b : Bool). ◌≡◌ {A = Option Slot} (cond b (Some (record { 0 = get_or es place 0 })) None) None → length es ≤ place) (ltb place (length es))
    (λ t e. let never : ◌≡◌ {A = ℕ} 0 1 = cc in absurd (omega arith))
    (λ f e. ltb-false place (length es) f)

-- ---- taking it

pub taken_at-past : (place : ℕ) (es : List ℕ) → length es ≤ place → taken_at place es ≡ es
unfolding taken_at
taken_at-past place es l = λ i. drop_of_length-le es {i = suc place} (omega arith) i ++ take_all place es l i

drop_seam : (f : List ℕ) (e : ℕ) (t : List ℕ) → drop (suc (length f)) (f ++ e ∷ t) ≡ t
drop_seam [] e t = refl
drop_seam (x ∷ f) e t = drop_seam f e t

-- the list cut at the place: f before it, t behind it
pub taken_at-cut : (f : List ℕ) (e : ℕ) (t : List ℕ) → taken_at (length f) (f ++ e ∷ t) ≡ t ++ f
unfolding taken_at
taken_at-cut f e t = λ i. drop_seam f e t i ++ take-append_seam f (e ∷ t) i

-- ---- removal

pub without-same : (slot e : ℕ) (es : List ℕ) → e ≡ slot → without slot (e ∷ es) ≡ without slot es
unfolding without
without-same slot e es is = rw (eq-eqb e slot is)

pub without_other : (slot e : ℕ) (es : List ℕ) → (e ≡ slot → ⊥) → without slot (e ∷ es) ≡ e ∷ without slot es
unfolding without
without_other slot e es is = rw (ne_eqb e slot is)

-- ---- the 64 places

pub length-places : (es : List ℕ) → length es ≤ 64 → length (places es) ≡ 64
unfolding places
length-places es small = omega (arith, length-append es (replicate (64 - length es) 0), length-replicate {A = ℕ} (64 - length es) 0)
