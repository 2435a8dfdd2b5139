-- Document 01, "Call frames": text of lines, and the text of its answers.
use Rattle.std.specs.Prelude.{Bool, true, false, cond, List, [], ◌∷◌, ◌++◌, ℕ, eqb, Option, None, Some}
use Rattle.rules.specs.declared.call.Call.{Call}
use Rattle.rules.specs.State.{State, none_byte}
use Rattle.rules.specs.Step.{step}
use Rattle.frames.specs.Answer.{answer_bytes}
use Rattle.frames.specs.Frame.{frame_call}
use Rattle.frames.specs.Hex.{is_hex, from_hex, to_hex}

-- ---- a line

abbrev pub newline : ℕ
newline = 10

-- what stands before the first newline
unfoldable pub line_of : List ℕ → List ℕ
line_of [] = []
line_of (b ∷ text) = cond (eqb b newline) [] (b ∷ line_of text)

-- the call that a line stands for, or none: "bad digit, unknown call, wrong length, band above 2"
unfoldable pub line_call : List ℕ → Option Call
line_call line = cond (is_hex line) (frame_call (from_hex line)) None

-- what a frame makes of a state: an answer's bytes, and a state
pub record Said : Type 0 where
  pub bytes : List ℕ
  pub state : State

-- 9, and no pick
abbrev pub no_frame : List ℕ
no_frame = 9 ∷ none_byte ∷ none_byte ∷ []

-- A frame that is refused: 9, "bad digit, unknown call, wrong length, band above 2", and "pick slot and pick band (ff ff for none)". "Refused: no
-- value." "A refusal changes no state."
abbrev pub said : Option Call → State → Said
said None s = record { bytes = no_frame; state = s }
said (Some call) s = record { bytes = answer_bytes (step call s).answer; state = (step call s).state }

-- what a line makes of a state
unfoldable pub said_to : List ℕ → State → Said
said_to line s = said (line_call line) s

-- an answer as a line of text
unfoldable pub line_text : List ℕ → List ℕ
line_text bytes = to_hex bytes ++ (newline ∷ [])

-- ---- a text of lines

-- whether there is any byte
abbrev pub some : List ℕ → Bool
some [] = false
some (b ∷ bytes) = true

-- The lines of a text that goes on from the start of a line, each "closed by a newline or the end of input; nothing after the last newline is no
-- line".
unfoldable pub lines_from : List ℕ → List ℕ → List (List ℕ)
lines_from line [] = cond (some line) (line ∷ []) []
lines_from line (b ∷ text) = cond (eqb b newline) (line ∷ lines_from [] text) (lines_from (line ++ (b ∷ [])) text)

abbrev pub lines : List ℕ → List (List ℕ)
lines text = lines_from [] text

-- the answer to a line, and the state after it
unfoldable pub answer_to : List ℕ → State → List ℕ
answer_to line s = line_text (said_to line s).bytes

unfoldable pub state_after : List ℕ → State → State
state_after line s = (said_to line s).state

-- "answers a line a frame, no header": the answers to lines, each from the state that the one before left
unfoldable pub answers_to : State → List (List ℕ) → List ℕ
answers_to s [] = []
answers_to s (line ∷ rest) = answer_to line s ++ answers_to (state_after line s) rest
