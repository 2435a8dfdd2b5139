-- Bytes stored one behind the other in a buffer (`sets`): in two goes, through a part of it, over a part of it, and read back.
-- Assumes nothing.
use mathlib.Core.Path.{◌≡◌, refl, sym, ap, ◌∙◌}
use mathlib.Core.List.{List, [], ◌∷◌, ◌++◌, append_assoc}
use Prim.Native.Nat.{ℕ, zero, suc, ◌+◌, ◌≤◌, ◌<◌}
use native.Mathlib.Omega.{arith}
use native.Mathlib.Nat.{add-zero, add-suc, suc-add, zero-add}
use lib.ListN.{length, get_or, take, drop, set, length-set, length-append}
use lib.Seq.{sets, sets-eq, set-append_left, set_out, take_at, take_all, drop_at, drop-drop, length-sets, get_or-take}
use borrow.Rule.Slice.PartMut.{put_mid}

-- first some, then the rest behind them
pub sets_append : (o : List ℕ) (at : ℕ) (a b : List ℕ) → sets o at (a ++ b) ≡ sets (sets o at a) (at + length a) b
sets_append o at [] b = ap (λ (n : ℕ). sets o n b) (sym (add-zero at))
sets_append o at (x ∷ a) b =
    sets_append (set o at x) (suc at) a b
    ∙ ap (λ (n : ℕ). sets (sets (set o at x) (suc at) a) n b) (suc-add at (length a) ∙ sym (add-suc at (length a)))

-- bytes stored through a part that is as long as they are
pub put_part : (o : List ℕ) (at : ℕ) (a : List ℕ) {n : ℕ} {now : List ℕ} → at + length a ≤ length o → n ≡ length a → now ≡ a →
    put_mid at n o now ≡ sets o at a
put_part o at a room long is = rw (is, long, drop-drop (length a) at o, sets-eq a o at room) (sym (append_assoc (take at o) a (drop (at + length a) o)))

-- a store behind the first byte, behind the first bytes, and over the first bytes
sets_cons : (x : ℕ) (o : List ℕ) (at : ℕ) (a : List ℕ) → sets (x ∷ o) (suc at) a ≡ x ∷ sets o at a
sets_cons x o at [] = refl
sets_cons x o at (y ∷ a) = sets_cons x (set o at y) (suc at) a

pub sets_behind : (front o : List ℕ) (at : ℕ) (a : List ℕ) → sets (front ++ o) (length front + at) a ≡ front ++ sets o at a
sets_behind [] o at a = ap (λ (n : ℕ). sets o n a) (zero-add at)
sets_behind (x ∷ front) o at a =
    ap (λ (n : ℕ). sets (x ∷ front ++ o) n a) (suc-add (length front) at)
    ∙ sets_cons x (front ++ o) (length front + at) a
    ∙ ap (λ (l : List ℕ). x ∷ l) (sets_behind front o at a)

pub sets_over : (front o a : List ℕ) → length front ≡ length a → sets (front ++ o) 0 a ≡ a ++ o
sets_over front o a e =
    sets-eq a (front ++ o) 0 (omega (arith, e, length-append front o)) ∙ ap (λ (l : List ℕ). a ++ l) (drop_at front o (0 + length a) (omega (arith, e)))

-- a store inside the first bytes
pub sets_front : (front o : List ℕ) (at : ℕ) (a : List ℕ) → at + length a ≤ length front → sets (front ++ o) at a ≡ sets front at a ++ o
sets_front front o at [] h = refl
sets_front front o at (x ∷ a) h =
    ap (λ (l : List ℕ). sets l (suc at) a) (set-append_left front o at x (omega arith))
    ∙ sets_front (set front at x) o (suc at) a (omega (arith, length-set front at x))

-- what has no place is not stored: as many bytes as have room make the same
pub sets_room : (o : List ℕ) (at n : ℕ) (a : List ℕ) → length o ≤ at + n → sets o at (take n a) ≡ sets o at a
sets_room o at n [] h = ap (sets o at) (take_all n [] (omega arith))
sets_room o at zero (x ∷ a) h =
    sets_room o (suc at) zero a (omega (arith, h)) ∙ sym (ap (λ (l : List ℕ). sets l (suc at) a) (set_out o at x (omega (arith, h))))
sets_room o at (suc n) (x ∷ a) h = sets_room (set o at x) (suc at) n a (omega (arith, h, length-set o at x))

-- what was stored at the front stands there
pub take_sets : (o a : List ℕ) → length a ≤ length o → take (length a) (sets o 0 a) ≡ a
take_sets o a h = ap (take (length a)) (sets-eq a o 0 (omega (arith, h))) ∙ take_at a _ (length a) refl

-- and is read there
pub sets_read : (o a : List ℕ) (i : ℕ) → length a ≤ length o → i < length a → get_or (sets o 0 a) i 0 ≡ get_or a i 0
sets_read o a i room h = sym (get_or-take (length a) (sets o 0 a) i 0 h) ∙ ap (λ (l : List ℕ). get_or l i 0) (take_sets o a room)

-- a run that is as long as the buffer is all that is left
pub sets_all : (o a : List ℕ) → length a ≡ length o → sets o 0 a ≡ a
sets_all o a e = sym (take_all (length a) (sets o 0 a) (omega (arith, e, length-sets o 0 a))) ∙ take_sets o a (omega (arith, e))
