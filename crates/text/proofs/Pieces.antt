-- What is put behind a line: a piece that has room in part, two pieces in a row, and what a `write!` writes in several calls. Assumes
-- nothing.
use Rattle.std.specs.Prelude.{◌≡◌, ℕ, ◌+◌, ◌≤◌, List, [], ◌∷◌, ◌++◌, length, take}
use Rattle.std.proofs.Common.{zero, suc, refl, ap, sym, ◌∙◌, append_assoc, arith}
use Rattle.std.proofs.Math.Seq.{take-append-add}
use Rattle.std.proofs.lemmas.List.{append-nil, length-take, take_all}
use Rattle.std.specs.Fmt.{WritesInCalls}
use Rattle.std.specs.List.{FoldsTo, concat}
use Rattle.text.specs.Text.{Puts, line_room}

-- a text and as much of a piece as there is room for
pub cut_piece : (text bytes : List ℕ) (room : ℕ) → room + length text ≡ line_room → Puts bytes text (text ++ take room bytes)
cut_piece text bytes room whole =
    let places : length text + room ≡ line_room = omega arith in
    sym (ap (λ (n : ℕ). take n (text ++ bytes)) (sym places) ∙ take-append-add text bytes room)

-- what has no room is left out once or twice over
take-over : (n : ℕ) (xs ys : List ℕ) → take n (take n xs ++ ys) ≡ take n (xs ++ ys)
take-over zero xs ys = refl
take-over (suc n) [] ys = refl
take-over (suc n) (x ∷ xs) ys = ap (λ (r : List ℕ). x ∷ r) (take-over n xs ys)

-- a piece and then the rest are one piece
pub goes_on : (piece rest before between after : List ℕ) → Puts piece before between → Puts rest between after
    → Puts (piece ++ rest) before after
goes_on piece rest before between after first second =
    second
    ∙ ap (λ (t : List ℕ). take line_room (t ++ rest)) first
    ∙ take-over line_room (before ++ piece) rest
    ∙ ap (take line_room) (append_assoc before piece rest)

-- ---- several calls

-- what is written in a call is put behind the text
abbrev pub Writes : List ℕ → List ℕ → List ℕ → Type 0
Writes before bytes after = Puts bytes before after

puts-calls : (pieces : List (List ℕ)) (before after : List ℕ) → length before ≤ line_room → FoldsTo Writes before pieces after
    → Puts (concat pieces) before after
puts-calls [] before after fits same =
    sym same ∙ sym (take_all line_room before fits) ∙ ap (take line_room) (sym (append-nil before))
puts-calls (piece ∷ pieces) before after fits (between, first, rest) =
    let within : length between ≤ line_room = omega (arith, length-take line_room (before ++ piece), ap length first) in
    goes_on piece (concat pieces) before between after first (puts-calls pieces between after within rest)

-- what a `write!` of these bytes leaves
pub puts_written : (bytes before after : List ℕ) → length before ≤ line_room → WritesInCalls Writes before bytes after
    → Puts bytes before after
puts_written bytes before after fits written =
    puts-calls written.parts before after fits written.calls ∙ ap (λ (t : List ℕ). take line_room (before ++ t)) written.whole
