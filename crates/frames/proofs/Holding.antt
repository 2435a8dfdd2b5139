-- What is held of a line, as the code stores it: how many bytes it is, whether it is any, and more of the line behind it. Assumes nothing.
use mathlib.Core.Bool.{◌||◌}
use mathlib.Core.List.{List, [], ◌∷◌, ◌++◌}
use mathlib.Core.Path.{◌≡◌, refl, sym, ap, ◌∙◌}
use Prim.Native.Nat.{ℕ, suc, ◌+◌, ◌-◌, ◌≤◌, min}
use native.Mathlib.Omega.{arith}
use borrow.Author.Tests.{leb-true, leb-false, lt-ltb}
use lib.Dec.{ltb, leb}
use lib.ListN.{length, take, length-append, length-take}
use lib.Seq.{sets, length-take-le, sets-eq, take_at, take_all, take-append-add}
use Rattle.frames.specs.declared.held.Held.{Held}
use Rattle.frames.specs.Lines.{some}
use Rattle.frames.specs.Stream.{held_bytes, held_of, held_most}
use Rattle.frames.proofs.Cuts.{test}

pub length_held : (h : Held) → length (held_bytes h) ≡ h.len
unfolding held_bytes
length_held h = length-take-le h.len h.bytes (omega (arith, h.places, h.within))

-- ---- whether there is any byte

pub some_length : (l : List ℕ) → some l ≡ ltb 0 (length l)
some_length [] = refl
some_length (b ∷ l) = sym (lt-ltb 0 (suc (length l)) (omega arith))

pub some_held : (h : Held) → some (held_bytes h) ≡ ltb 0 h.len
some_held h = some_length (held_bytes h) ∙ ap (ltb 0) (length_held h)

pub some_append : (a b : List ℕ) → some (a ++ b) ≡ some a || some b
some_append [] b = refl
some_append (x ∷ a) b = refl

-- ---- more of a line behind so many bytes of it

take_min : (n : ℕ) (l : List ℕ) → take (min (length l) n) l ≡ take n l
take_min n l =
    test (leb n (length l))
    (λ e. let least : min (length l) n ≡ n = omega (arith, leb-true n (length l) e) in ap (λ (k : ℕ). take k l) least)
    (λ e.
    let short : length l ≤ n = omega (arith, leb-false n (length l) e) in
    take_all (min (length l) n) l (omega arith) ∙ sym (take_all n l short))

pub holds : (h : Held) (more : List ℕ) {n : ℕ} {after : List ℕ} → n ≡ min (length more) (held_most - h.len) → after ≡ sets h.bytes h.len (take n more) →
    take (h.len + n) after ≡ held_of (held_bytes h ++ more)
unfolding held_bytes
holds h more {n} {after} is stored =
    let a : List ℕ = take h.len h.bytes in
    let size : length a ≡ h.len = length-take-le h.len h.bytes (omega (arith, h.places, h.within)) in
    let whole : length (a ++ take n more) ≡ h.len + n = omega (arith, length-append a (take n more), length-take n more) in
    let room : length a + (held_most - h.len) ≡ held_most = omega (arith, h.within) in
    ap (take (h.len + n)) (stored ∙ sets-eq (take n more) h.bytes h.len (omega (arith, length-take n more, h.places, h.within)))
    ∙ take_at (a ++ take n more) _ (h.len + n) whole
    ∙ ap (λ (l : List ℕ). a ++ l) (ap (λ (k : ℕ). take k more) is ∙ take_min (held_most - h.len) more)
    ∙ sym (take-append-add a more (held_most - h.len))
    ∙ ap (λ (k : ℕ). take k (a ++ more)) room
