-- Document 01, "Call frames": "A line is lower-case hexadecimal, two digits a byte".
use Rattle.std.specs.Prelude.{Bool, true, false, cond, ◌&&◌, ◌||◌, List, [], ◌∷◌, ℕ, ◌+◌, ◌-◌, ◌*◌, ◌/◌, ◌%◌, leb}

-- 0 to 9 are the bytes 48 to 57, a to f the bytes 97 to 102
abbrev pub within : ℕ → ℕ → ℕ → Bool
within low high d = leb low d && leb d high

abbrev pub is_digit : ℕ → Bool
is_digit d = within 48 57 d || within 97 102 d

-- what a digit stands for
abbrev pub digit_value : ℕ → ℕ
digit_value d = cond (within 48 57 d) (d - 48) (cond (within 97 102 d) (d - 87) 0)

-- the digit that stands for a number below 16
abbrev pub digit_of : ℕ → ℕ
digit_of n = cond (leb n 9) (n + 48) (n + 87)

-- "two digits a byte": no bad digit, and none left over
unfoldable pub is_hex : List ℕ → Bool
is_hex [] = true
is_hex (d ∷ []) = false
is_hex (d ∷ e ∷ digits) = is_digit d && is_digit e && is_hex digits

-- the byte of two digits
abbrev pub byte_of : ℕ → ℕ → ℕ
byte_of d e = digit_value d * 16 + digit_value e

-- the bytes that such digits stand for
unfoldable pub from_hex : List ℕ → List ℕ
from_hex [] = []
from_hex (d ∷ []) = []
from_hex (d ∷ e ∷ digits) = byte_of d e ∷ from_hex digits

-- the digits of bytes
unfoldable pub to_hex : List ℕ → List ℕ
to_hex [] = []
to_hex (b ∷ bytes) = digit_of (b / 16) ∷ digit_of (b % 16) ∷ to_hex bytes
