-- Bytes that stand one behind the other, each part in its width: parts put together and read again, bytes cut into parts and put together again, a
-- store inside one part; and the same round trips for the numbers that the parts stand for (`numbers_at` against `written`), over any list of widths.
-- Assumes nothing.
use mathlib.Core.Path.{◌≡◌, refl, sym, ap, subst, ◌∙◌}
use mathlib.Core.List.{List, [], ◌∷◌, ◌++◌, map, flatten, append_assoc}
use Prim.Native.Nat.{ℕ, zero, suc, ◌+◌, ◌*◌, ◌≤◌, ◌<◌, ◌^◌}
use native.Mathlib.Nat.{add_assoc, zero-add, mul_assoc, mul-le-mul_right, pow-succ', pow-le-pow_right, lt_of_lt_of_le}
use native.Mathlib.Omega.{arith}
use lib.ListN.{length, get_or, take, drop, set, length-append, length-take, length-drop}
use lib.Seq.{sets, take_at, take-take, take-append_seam, drop-append_seam, drop-append-add, take-add, drop-drop, get_or-take, get_or-drop}
use Rattle.records.specs.Lists.{Each}
use Rattle.frames.specs.Bytes.{AllBytes, big_endian_from, big_endian, bytes_of, part, number_at, written, numbers_at, Fit, total}
use Rattle.frames.proofs.Elements.{each_take, each_drop}
use Rattle.frames.proofs.Numbers.{length-bytes_of, big_endian-bytes_of, bytes_of-big_endian}
use Rattle.frames.proofs.Stores.{sets_behind, sets_front}

-- ---- a part

-- a part that stands there is as long as was asked for
pub length_part : (at width : ℕ) (bytes : List ℕ) → at + width ≤ length bytes → length (part at width bytes) ≡ width
length_part at width bytes h = omega (arith, length-take width (drop at bytes), length-drop at bytes)

-- an element of a part
pub get_d_part : (at width : ℕ) (bytes : List ℕ) (i d : ℕ) → i < width → get_or (part at width bytes) i d ≡ get_or bytes (at + i) d
get_d_part at width bytes i d h = get_or-take width (drop at bytes) i d h ∙ get_or-drop at bytes i d

-- a part of bytes is bytes
pub bytes-part : (at width : ℕ) (bytes : List ℕ) → AllBytes bytes → AllBytes (part at width bytes)
bytes-part at width bytes h = each_take _ width (drop at bytes) (each_drop _ at bytes h)

-- two parts, one behind the other, are one
pub part_add : (at width more : ℕ) (bytes : List ℕ) → part at width bytes ++ part (at + width) more bytes ≡ part at (width + more) bytes
part_add at width more bytes =
    ap (λ (l : List ℕ). part at width bytes ++ take more l) (sym (drop-drop width at bytes)) ∙ sym (take-add width more (drop at bytes))

-- a piece behind others, and what follows it
part-behind : (front piece rest : List ℕ) {width : ℕ} → length piece ≡ width → part (length front) width (front ++ (piece ++ rest)) ≡ piece
part-behind front piece rest {width} e = ap (take width) (drop-append_seam front (piece ++ rest)) ∙ take_at piece rest width e

past_piece : {A : Type 0} (f : ℕ → List ℕ → A) (front piece rest : List ℕ) {width : ℕ} → length piece ≡ width →
    f (length front + width) (front ++ (piece ++ rest)) ≡ f (length (front ++ piece)) (front ++ piece ++ rest)
past_piece f front piece rest {width} e =
    let long : length front + width ≡ length (front ++ piece) = omega (arith, e, length-append front piece) in
    λ i. f (long i) (sym (append_assoc front piece rest) i)

-- a part of a part
part-take : (inner size width : ℕ) (bytes : List ℕ) → inner + size ≤ width → part inner size (take width bytes) ≡ part inner size bytes
part-take zero size width bytes h = take-take size width bytes (omega arith)
part-take (suc inner) size zero bytes h = absurd (omega arith)
part-take (suc inner) size (suc width) [] h = refl
part-take (suc inner) size (suc width) (b ∷ bytes) h = part-take inner size width bytes (omega arith)

pub part-within : (at width inner size : ℕ) (bytes : List ℕ) → inner + size ≤ width → part inner size (part at width bytes) ≡ part (at + inner) size bytes
part-within at width inner size bytes h = part-take inner size width (drop at bytes) h ∙ ap (take size) (drop-drop inner at bytes)

-- ---- parts one behind the other

-- reading what was written: each stands behind those before it
part-read : (parts : List (List ℕ)) (k : ℕ) → k < length parts →
    part (total (take k (map length parts))) (length (get_or parts k [])) (flatten parts) ≡ get_or parts k []
unfolding flatten
part-read [] k h = absurd (omega arith)
part-read (piece ∷ parts) zero h = take-append_seam piece (flatten parts)
part-read (piece ∷ parts) (suc k) h =
    ap (take (length (get_or parts k []))) (drop-append-add piece (flatten parts) (total (take k (map length parts)))) ∙ part-read parts k (omega arith)

pub part_of : (parts : List (List ℕ)) (k at : ℕ) {width : ℕ} → k < length parts → total (take k (map length parts)) ≡ at →
    length (get_or parts k []) ≡ width → part at width (flatten parts) ≡ get_or parts k []
part_of parts k at h place size = (λ i. part (sym place i) (sym size i) (flatten parts)) ∙ part-read parts k h

-- writing what was read: parts from a place on, each in its width
abbrev pub parts_at : ℕ → List ℕ → List ℕ → List (List ℕ)
parts_at at [] bytes = []
parts_at at (width ∷ widths) bytes = part at width bytes ∷ parts_at (at + width) widths bytes

pub flatten_parts : (at : ℕ) (widths bytes : List ℕ) → flatten (parts_at at widths bytes) ≡ part at (total widths) bytes
unfolding flatten
flatten_parts at [] bytes = refl
flatten_parts at (width ∷ widths) bytes =
    ap (λ (l : List ℕ). part at width bytes ++ l) (flatten_parts (at + width) widths bytes) ∙ part_add at width (total widths) bytes

-- a store inside one of them
pub sets_part : (parts : List (List ℕ)) (k at : ℕ) (a : List ℕ) → k < length parts → at + length a ≤ length (get_or parts k []) →
    sets (flatten parts) (total (take k (map length parts)) + at) a ≡ flatten (set parts k (sets (get_or parts k []) at a))
unfolding flatten
sets_part [] k at a h room = absurd (omega arith)
sets_part (piece ∷ parts) zero at a h room =
    ap (λ (n : ℕ). sets (piece ++ flatten parts) n a) (zero-add at) ∙ sets_front piece (flatten parts) at a room
sets_part (piece ∷ parts) (suc k) at a h room =
    ap (λ (n : ℕ). sets (piece ++ flatten parts) n a) (add_assoc (length piece) (total (take k (map length parts))) at)
    ∙ sets_behind piece (flatten parts) (total (take k (map length parts)) + at) a
    ∙ ap (λ (l : List ℕ). piece ++ l) (sets_part parts k at a (omega arith) room)

-- as long as all of them
pub length_flatten : (parts : List (List ℕ)) → length (flatten parts) ≡ total (map length parts)
unfolding flatten
length_flatten [] = refl
length_flatten (piece ∷ parts) = length-append piece (flatten parts) ∙ ap (λ (n : ℕ). length piece + n) (length_flatten parts)

-- ---- numbers

-- a number that stands at a place, written again
pub bytes_of-number_at : (at width : ℕ) (bytes : List ℕ) → AllBytes bytes → at + width ≤ length bytes →
    bytes_of width (number_at at width bytes) ≡ part at width bytes
bytes_of-number_at at width bytes h le =
    ap (λ (n : ℕ). bytes_of n (number_at at width bytes)) (sym (length_part at width bytes le))
    ∙ bytes_of-big_endian (part at width bytes) (bytes-part at width bytes h)

-- a number that is read fits its width
big_endian-small : (before : ℕ) (bytes : List ℕ) → AllBytes bytes → big_endian_from before bytes < suc before * 256 ^ length bytes
unfolding big_endian_from Each
big_endian-small before [] h = omega arith
big_endian-small before (b ∷ bytes) h =
    let room : suc (before * 256 + b) ≤ suc before * 256 = omega (arith, h.0) in
    let wider : suc before * 256 * 256 ^ length bytes ≡ suc before * 256 ^ suc (length bytes) =
    mul_assoc (suc before) 256 (256 ^ length bytes) ∙ ap (λ (n : ℕ). suc before * n) (sym (pow-succ' 256 (length bytes))) in
    subst (λ (n : ℕ). big_endian_from (before * 256 + b) bytes < n) wider
    (lt_of_lt_of_le (big_endian-small (before * 256 + b) bytes h.1) (mul-le-mul_right (256 ^ length bytes) room))

pub number_small : (at width : ℕ) (bytes : List ℕ) → AllBytes bytes → number_at at width bytes < 256 ^ width
number_small at width bytes h =
    let short : length (part at width bytes) ≤ width = omega (arith, length-take width (drop at bytes)) in
    omega (arith, big_endian-small 0 (part at width bytes) (bytes-part at width bytes h), pow-le-pow_right {n = 256} (omega arith) short)

-- numbers written behind other bytes, and read there
pub numbers_at-behind : (front widths numbers : List ℕ) → Fit widths numbers →
    numbers_at (length front) widths (front ++ written widths numbers) ≡ numbers
unfolding Fit
numbers_at-behind front [] [] fit = refl
numbers_at-behind front [] (x ∷ numbers) fit = absurd fit
numbers_at-behind front (width ∷ widths) [] fit = absurd fit
numbers_at-behind front (width ∷ widths) (x ∷ numbers) fit =
    let bytes = bytes_of width x in
    let rest = written widths numbers in
    let long = length-bytes_of width x in
    let first = ap big_endian (part-behind front bytes rest long) ∙ big_endian-bytes_of width x fit.0 in
    let others = past_piece (λ at l. numbers_at at widths l) front bytes rest long ∙ numbers_at-behind (front ++ bytes) widths numbers fit.1 in
    λ i. first i ∷ others i

-- numbers written, and read back
pub numbers_at-written : (widths numbers : List ℕ) → Fit widths numbers → numbers_at 0 widths (written widths numbers) ≡ numbers
numbers_at-written = numbers_at-behind []

-- numbers read, and written again
pub written-numbers_at : (at : ℕ) (widths bytes : List ℕ) → AllBytes bytes → at + total widths ≤ length bytes →
    written widths (numbers_at at widths bytes) ≡ part at (total widths) bytes
written-numbers_at at [] bytes h le = refl
written-numbers_at at (width ∷ widths) bytes h le =
    (λ i. bytes_of-number_at at width bytes h (omega (arith, le)) i ++ written-numbers_at (at + width) widths bytes h (omega (arith, le)) i)
    ∙ part_add at width (total widths) bytes
