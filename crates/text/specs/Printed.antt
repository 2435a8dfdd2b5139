-- Bytes, and a value that may be missing, as they are printed.
use Rattle.std.specs.Prelude.{List, [], ◌∷◌, ℕ, ◌/◌, ◌%◌, false, flat_map, Option, Some, None, codes}
use Rattle.std.specs.Fmt.{digit_glyph}

-- a byte's two hexadecimal digits, in lower case
abbrev pub two_digits : ℕ → List ℕ
two_digits b = digit_glyph false (b / 16) ∷ digit_glyph false (b % 16) ∷ []

-- two digits a byte
abbrev pub hex_text : List ℕ → List ℕ
hex_text bytes = flat_map two_digits bytes

-- a value's own text, as far as it has one that is known, or a word that there is no value
abbrev pub or_none_text : {T : Type 0} → (T → Option (List ℕ)) → Option T → Option (List ℕ)
or_none_text text (Some value) = text value
or_none_text text None = Some (codes "none")
