-- Document 01, "Task record, queues, holders": "multi-byte fields big-endian, as in image, frames and answers too". Bytes are lists of numbers
-- below 256.
use Rattle.std.specs.Prelude.{List, [], ◌∷◌, ◌++◌, ℕ, zero, suc, ◌+◌, ◌*◌, ◌/◌, ◌%◌, ◌<◌, ◌^◌, ◌≡◌, length, take, drop}
use Rattle.std.proofs.lemmas.List.Edits.{sets}
use Rattle.records.specs.Lists.{Each}

-- every element is a byte
abbrev pub AllBytes : List ℕ → Type 0
AllBytes bytes = Each (λ (b : ℕ). b < 256) bytes

-- the number that bytes stand for, the first byte the largest, behind a number read before
unfoldable pub big_endian_from : ℕ → List ℕ → ℕ
big_endian_from before [] = before
big_endian_from before (b ∷ bytes) = big_endian_from (before * 256 + b) bytes

abbrev pub big_endian : List ℕ → ℕ
big_endian bytes = big_endian_from 0 bytes

-- a number as so many bytes; what has no room in them is left out
unfoldable pub bytes_of : ℕ → ℕ → List ℕ
bytes_of zero x = []
bytes_of (suc width) x = bytes_of width (x / 256) ++ (x % 256 ∷ [])

-- so many bytes from a place on, or what there is of them
abbrev pub part : ℕ → ℕ → List ℕ → List ℕ
part at width bytes = take width (drop at bytes)

-- the number that stands at a place
abbrev pub number_at : ℕ → ℕ → List ℕ → ℕ
number_at at width bytes = big_endian (part at width bytes)

-- numbers one behind the other, each in its width
abbrev pub written : List ℕ → List ℕ → List ℕ
written [] numbers = []
written (width ∷ widths) [] = []
written (width ∷ widths) (x ∷ numbers) = bytes_of width x ++ written widths numbers

-- the numbers that stand one behind the other from a place on, each in its width
abbrev pub numbers_at : ℕ → List ℕ → List ℕ → List ℕ
numbers_at at [] bytes = []
numbers_at at (width ∷ widths) bytes = number_at at width bytes ∷ numbers_at (at + width) widths bytes

-- there is a number for each width, and it fits
unfoldable pub Fit : List ℕ → List ℕ → Type 0
Fit [] [] = Unit
Fit [] (x ∷ numbers) = ⊥
Fit (width ∷ widths) [] = ⊥
Fit (width ∷ widths) (x ∷ numbers) = (x < 256 ^ width) × Fit widths numbers

-- how many bytes they take
abbrev pub total : List ℕ → ℕ
total [] = 0
total (width ∷ widths) = width + total widths

-- these bytes stored from a place on, the rest of the buffer as it was, and their number answered; a place past the buffer's end takes nothing
pub record Puts (bytes : List ℕ) (at : ℕ) (before after : List ℕ) (r : ℕ) : Type 0 where
  pub buffer_is : after ≡ sets before at bytes
  pub length_is : r ≡ length bytes
