-- Numbers as big-endian bytes: how many bytes there are and that each is below 256, the round trip over every width both ways, what the
-- loop that reads a number needs, and the last bytes of those that std lists. Assumes nothing.
use mathlib.Core.Path.{◌≡◌, refl, sym, ap, ◌∙◌}
use mathlib.Core.List.{List, [], ◌∷◌, ◌++◌, append-nil, append_assoc}
use Prim.Native.Nat.{ℕ, zero, suc, ◌+◌, ◌-◌, ◌*◌, ◌/◌, ◌%◌, ◌≤◌, ◌<◌, ◌^◌}
use native.Mathlib.Omega.{arith}
use native.Mathlib.Nat.{add-zero, zero-add, add-suc, suc-add, pow-suc, pow-succ', pow-le-pow_right, div-div-eq-div-mul}
use native.Mathlib.Numerals.{add-one}
use lib.ListN.{length, get_or, take, drop, length-append, length-take}
use lib.Seq.{take-suc, take_all}
use Rattle.std.specs.Int.{w64, byte_at, bytes_high_first, to_be_bytes}
use Rattle.records.specs.Lists.{Each}
use Rattle.frames.specs.Bytes.{AllBytes, big_endian_from, big_endian, bytes_of, part, written}
use Rattle.frames.specs.Private.{IsNumber}
use Rattle.frames.proofs.Elements.{each_append}

-- ---- the bytes of a number

pub length-bytes_of : (width x : ℕ) → length (bytes_of width x) ≡ width
unfolding bytes_of
length-bytes_of zero x = refl
length-bytes_of (suc width) x = simp length-append (omega (arith, length-bytes_of width (x / 256)))

pub bytes_of-bytes : (width x : ℕ) → AllBytes (bytes_of width x)
unfolding bytes_of Each
bytes_of-bytes zero x = tt
bytes_of-bytes (suc width) x = each_append _ (bytes_of width (x / 256)) (x % 256 ∷ []) (bytes_of-bytes width (x / 256)) (omega arith, tt)

pub written-bytes : (widths numbers : List ℕ) → AllBytes (written widths numbers)
unfolding Each
written-bytes [] numbers = tt
written-bytes (width ∷ widths) [] = tt
written-bytes (width ∷ widths) (x ∷ numbers) = each_append _ (bytes_of width x) (written widths numbers) (bytes_of-bytes width x) (written-bytes widths numbers)

-- ---- the round trip

-- one more byte behind the others
big_endian_snoc : (before : ℕ) (bytes : List ℕ) (b : ℕ) → big_endian_from before (bytes ++ (b ∷ [])) ≡ big_endian_from before bytes * 256 + b
unfolding big_endian_from
big_endian_snoc before [] b = refl
big_endian_snoc before (x ∷ bytes) b = big_endian_snoc (before * 256 + x) bytes b

pub big_endian-bytes_of : (width x : ℕ) → x < 256 ^ width → big_endian (bytes_of width x) ≡ x
unfolding big_endian_from bytes_of
big_endian-bytes_of zero x h = omega arith
big_endian-bytes_of (suc width) x h =
    let fits : x / 256 < 256 ^ width = omega (arith, pow-suc 256 width) in
    big_endian_snoc 0 (bytes_of width (x / 256)) (x % 256) ∙ omega (arith, big_endian-bytes_of width (x / 256) fits)

-- the bytes of a number that was read behind another: first those of the other
bytes_of-behind : (width before : ℕ) (bytes : List ℕ) → AllBytes bytes →
    bytes_of (width + length bytes) (big_endian_from before bytes) ≡ bytes_of width before ++ bytes
unfolding big_endian_from bytes_of Each
bytes_of-behind width before [] h = rw (add-zero width, append-nil)
bytes_of-behind width before (b ∷ bytes) h =
    let small : b < 256 = h.0 in
    let front : (before * 256 + b) / 256 ≡ before = omega arith in
    let last : (before * 256 + b) % 256 ≡ b = omega arith in
    ap (λ (n : ℕ). bytes_of n (big_endian_from (before * 256 + b) bytes)) (add-suc width (length bytes) ∙ sym (suc-add width (length bytes)))
    ∙ bytes_of-behind (suc width) (before * 256 + b) bytes h.1
    ∙ append_assoc (bytes_of width ((before * 256 + b) / 256)) ((before * 256 + b) % 256 ∷ []) bytes
    ∙ (λ i. bytes_of width (front i) ++ last i ∷ bytes)

pub bytes_of-big_endian : (bytes : List ℕ) → AllBytes bytes → bytes_of (length bytes) (big_endian bytes) ≡ bytes
unfolding bytes_of
bytes_of-big_endian bytes h = ap (λ (n : ℕ). bytes_of n (big_endian bytes)) (sym (zero-add (length bytes))) ∙ bytes_of-behind 0 0 bytes h

-- ---- reading: what was read so far is the number that the bytes so far are

pub number_begin : (bytes : List ℕ) → IsNumber 0 0 bytes 0
unfolding big_endian_from
number_begin bytes = record { is = refl; small = omega arith }

pub number_on : {k : ℕ} {bytes : List ℕ} {read b : ℕ} → IsNumber 0 k bytes read → k < length bytes → b ≡ get_or bytes k 0 → b < 256 →
    IsNumber 0 (k + 1) bytes (b + read * 256)
number_on {k} {bytes} {read} {b} so h last small =
    let turned : b + read * 256 ≡ read * 256 + b = omega arith in
    rw (add-one k)
    record {
      is = turned ∙ (λ i. so.is i * 256 + last i)
          ∙ sym (big_endian_snoc 0 (take k bytes) (get_or bytes k 0))
          ∙ ap big_endian (sym (take-suc bytes k 0 h));
      small = omega (arith, pow-suc 256 k, so.small);
    }

-- the number that a part's bytes are stands at the part's place
pub number_in : {at width : ℕ} {bytes l : List ℕ} {read : ℕ} → IsNumber 0 (length l) l read → l ≡ part at width bytes → IsNumber at width bytes read
number_in {at} {width} {bytes} {l} so e =
    let short : length l ≤ width = rw e (omega (arith, length-take width (drop at bytes))) in
    record {
      is = so.is ∙ ap big_endian (take_all (length l) l (omega arith) ∙ e);
      small = omega (arith, so.small, pow-le-pow_right {n = 256} (omega arith) short);
    }

-- ---- storing: the last bytes of the 8 that std lists, the highest first

byte_at-div : (k x : ℕ) → byte_at (suc k) x ≡ byte_at k (x / 256)
byte_at-div zero x = refl
byte_at-div (suc k) x =
    ap (λ (n : ℕ). x / n % 256) (pow-succ' 256 (suc k)) ∙ ap (λ (n : ℕ). n % 256) (sym (div-div-eq-div-mul x 256 (256 ^ suc k)))

high_first_snoc : (k x : ℕ) → bytes_high_first (suc k) x ≡ bytes_high_first k (x / 256) ++ (x % 256 ∷ [])
high_first_snoc zero x = refl
high_first_snoc (suc k) x = λ i. byte_at-div k x i ∷ high_first_snoc k x i

bytes_of-high_first : (width x : ℕ) → bytes_high_first width x ≡ bytes_of width x
unfolding bytes_of
bytes_of-high_first zero x = refl
bytes_of-high_first (suc width) x = high_first_snoc width x ∙ ap (λ (l : List ℕ). l ++ (x % 256 ∷ [])) (bytes_of-high_first width (x / 256))

drop-high_first : (n k width x : ℕ) → k ≡ n + width → drop n (bytes_high_first k x) ≡ bytes_high_first width x
drop-high_first zero k width x e = ap (λ (m : ℕ). bytes_high_first m x) (e ∙ zero-add width)
drop-high_first (suc n) zero width x e = absurd (omega arith)
drop-high_first (suc n) (suc k) width x e = drop-high_first n k width x (omega arith)

pub last_bytes : (width x : ℕ) → width ≤ 8 → drop (8 - width) (to_be_bytes w64 x) ≡ bytes_of width x
last_bytes width x h = drop-high_first (8 - width) 8 width x (omega arith) ∙ bytes_of-high_first width x

-- as a slice from there on has them
pub last_bytes_stored : (width x : ℕ) {bytes : List ℕ} → width ≤ 8 → bytes ≡ to_be_bytes w64 x → take (8 - (8 - width)) (drop (8 - width) bytes) ≡ bytes_of width x
last_bytes_stored width x {bytes} h e =
    let last : drop (8 - width) bytes ≡ bytes_of width x = ap (drop (8 - width)) e ∙ last_bytes width x h in
    ap (take (8 - (8 - width))) last ∙ take_all (8 - (8 - width)) (bytes_of width x) (omega (arith, length-bytes_of width x))
