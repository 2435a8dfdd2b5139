-- Lower-case hexadecimal: what digits stand for, the round trip from bytes to digits and back, lengths, and what the loops that test, read and
-- store digits need. Assumes nothing.
use mathlib.Core.Path.{◌≡◌, refl, sym, ap, ◌∙◌}
use mathlib.Core.Bool.{Bool, true, false, and_assoc, and-false}
use mathlib.Core.Logic.Iff
use mathlib.Core.List.{List, [], ◌∷◌}
use Prim.Native.Nat.{ℕ, suc, ◌+◌, ◌*◌, ◌/◌, ◌%◌, ◌≤◌, ◌<◌}
use native.Mathlib.Omega.{arith}
use native.Mathlib.Numerals.{add-one}
use lib.ListN.{length, get_or, drop, set, length-drop, drop_of_length-le}
use lib.Seq.{sets, drop-cons}
use Rattle.std.specs.Bool.{Decides}
use Rattle.std.proofs.lemmas.Bool.Decides.{same_from_decides}
use Rattle.records.specs.Lists.{Each, every, every_below}
use Rattle.rules.proofs.Says.{equal, below, each}
use Rattle.frames.specs.Hex.{is_digit, digit_value, digit_of, is_hex, byte_of, from_hex, to_hex}
use Rattle.frames.specs.Private.{IsDigitValue}
use Rattle.frames.specs.Bytes.{AllBytes}

-- ---- one digit

-- of all 16 by computing
is_digit-digit_of : (n : ℕ) → n < 16 → is_digit (digit_of n) ≡ true
unfolding every_below
is_digit-digit_of = (below (λ (n : ℕ). Iff.rfl)).0 refl

digit_value-digit_of : (n : ℕ) → n < 16 → digit_value (digit_of n) ≡ n
unfolding every_below
digit_value-digit_of = (below (λ (n : ℕ). equal)).0 refl

-- ---- the round trip, and lengths

pub is_hex-to_hex : (bytes : List ℕ) → AllBytes bytes → is_hex (to_hex bytes) ≡ true
unfolding is_hex to_hex Each
is_hex-to_hex [] h = refl
is_hex-to_hex (b ∷ bytes) h =
    let small : b < 256 = h.0 in
    rw (is_digit-digit_of (b / 16) (omega arith), is_digit-digit_of (b % 16) (omega arith)) (is_hex-to_hex bytes h.1)

byte_of-digit_of : (b : ℕ) → b < 256 → byte_of (digit_of (b / 16)) (digit_of (b % 16)) ≡ b
byte_of-digit_of b h = rw (digit_value-digit_of (b / 16) (omega arith), digit_value-digit_of (b % 16) (omega arith)) (omega arith)

pub from_hex-to_hex : (bytes : List ℕ) → AllBytes bytes → from_hex (to_hex bytes) ≡ bytes
unfolding from_hex to_hex Each
from_hex-to_hex [] h = refl
from_hex-to_hex (b ∷ bytes) h = λ i. byte_of-digit_of b h.0 i ∷ from_hex-to_hex bytes h.1 i

pub length-to_hex : (bytes : List ℕ) → length (to_hex bytes) ≡ 2 * length bytes
unfolding to_hex
length-to_hex [] = refl
length-to_hex (b ∷ bytes) = omega (arith, length-to_hex bytes)

pub length-from_hex : (line : List ℕ) → length (from_hex line) ≡ length line / 2
unfolding from_hex
length-from_hex [] = refl
length-from_hex (d ∷ []) = refl
length-from_hex (d ∷ e ∷ digits) = omega (arith, length-from_hex digits)

-- ---- testing: by pairs as the definition goes, or one by one

is_hex-even : (line : List ℕ) → length line % 2 ≡ 0 → is_hex line ≡ every is_digit line
unfolding is_hex every
is_hex-even [] h = refl
is_hex-even (d ∷ []) h = absurd (omega (arith, h))
is_hex-even (d ∷ e ∷ digits) h = rw (is_hex-even digits (omega (arith, h))) (and_assoc (is_digit d) (is_digit e) (every is_digit digits))

pub is_hex-odd : (line : List ℕ) → (length line % 2 ≡ 0 → ⊥) → false ≡ is_hex line
unfolding is_hex
is_hex-odd [] odd = absurd (odd refl)
is_hex-odd (d ∷ []) odd = refl
is_hex-odd (d ∷ e ∷ digits) odd = rw (sym (is_hex-odd digits (λ even. odd (omega (arith, even))))) (sym (simp and-false))

pub is_hex_when : (line : List ℕ) (r : Bool) → length line % 2 ≡ 0 → Decides r ((k : ℕ) → k < length line → is_digit (get_or line k 0) ≡ true) →
    r ≡ is_hex line
is_hex_when line r even each-is = same_from_decides r (every is_digit line) each-is (each (λ d. Iff.rfl) 0 line) ∙ sym (is_hex-even line even)

-- ---- reading: the bytes of the digits that are left, stored behind those that are done, give what is asked for

drop_two : (line : List ℕ) (k : ℕ) → k + 1 < length line → drop k line ≡ get_or line k 0 ∷ get_or line (k + 1) 0 ∷ drop (k + 2) line
drop_two line k h =
    let one : suc k ≡ k + 1 = omega arith in
    let two : suc (suc k) ≡ k + 2 = omega arith in
    drop-cons line k 0 (omega arith)
    ∙ ap (λ (l : List ℕ). get_or line k 0 ∷ l) (drop-cons line (suc k) 0 (omega arith) ∙ (λ i. get_or line (one i) 0 ∷ drop (two i) line))

pub record ReadingDigits (line start now : List ℕ) (k : ℕ) : Type 0 where
  pub left_is : sets now k (from_hex (drop (2 * k) line)) ≡ sets start 0 (from_hex line)

pub reading_on : {line start now : List ℕ} {k v w : ℕ} → ReadingDigits line start now k → 2 * k + 1 < length line →
    IsDigitValue (get_or line (2 * k) 0) v → IsDigitValue (get_or line (2 * k + 1) 0) w → ReadingDigits line start (set now k (v * 16 + w)) (k + 1)
unfolding from_hex
reading_on {line} {k = k} so h v w =
    let two : 2 * (k + 1) ≡ 2 * k + 2 = omega arith in
    record { left_is = rw (two, add-one k, v.is, w.is) (rw (drop_two line (2 * k)) at so.left_is) }

from_hex-short : (rest : List ℕ) → length rest ≤ 1 → from_hex rest ≡ []
unfolding from_hex
from_hex-short [] h = refl
from_hex-short (d ∷ []) h = refl
from_hex-short (d ∷ e ∷ rest) h = absurd (omega arith)

pub reading_ended : {line start now : List ℕ} {k : ℕ} → ReadingDigits line start now k → length line / 2 ≤ k → now ≡ sets start 0 (from_hex line)
reading_ended {line} {k = k} so h = rw (from_hex-short (drop (2 * k) line) (simp length-drop (omega arith))) at so.left_is

-- ---- storing: the digits of the bytes that are left, stored behind those that are done, give what is asked for

pub record Storing (bytes start : List ℕ) (at : ℕ) (now : List ℕ) (k : ℕ) : Type 0 where
  pub left_is : sets now (at + 2 * k) (to_hex (drop k bytes)) ≡ sets start at (to_hex bytes)

pub storing_on : {bytes start now : List ℕ} {at k v w : ℕ} → Storing bytes start at now k → k < length bytes →
    v ≡ digit_of (get_or bytes k 0 / 16) → w ≡ digit_of (get_or bytes k 0 % 16) →
    Storing bytes start at (set (set now (at + 2 * k) v) (at + 2 * k + 1) w) (k + 1)
unfolding to_hex
storing_on {bytes} {at = at} {k} so h v w =
    let one : at + 2 * k + 1 ≡ suc (at + 2 * k) = omega arith in
    let two : at + 2 * (k + 1) ≡ suc (suc (at + 2 * k)) = omega arith in
    record { left_is = rw (one, two, add-one k, v, w) (rw (drop-cons bytes k 0) at so.left_is) }

pub storing-ended : {bytes start now : List ℕ} {at k : ℕ} → Storing bytes start at now k → length bytes ≤ k → now ≡ sets start at (to_hex bytes)
unfolding to_hex
storing-ended {bytes} so h = rw (drop_of_length-le bytes h) at so.left_is
