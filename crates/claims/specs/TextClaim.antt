-- Text fed to a stream, block after block: that the answers are those to the lines of the whole text, however it is cut and however small the buffers
-- are, and demand 3 for them.
use Rattle.std.specs.Prelude.{◌≡◌, Bool, true, false, ℕ, ◌+◌, take, drop}
use mathlib.Core.List.{List, [], ◌∷◌, ◌++◌, map, flatten}
use Rattle.scheduler.specs.declared.scheduler.QoSScheduler.{QoSScheduler}
use Rattle.rules.specs.State.{State}
use Rattle.frames.specs.declared.stream.Fed.{Fed}
use Rattle.frames.specs.declared.stream.Stream.{Stream}
use Rattle.frames.specs.Answer.{answer_bytes}
use Rattle.claims.specs.Requests.{Protocol, call_in, RefusedOr, Asks}
use Rattle.frames.specs.Lines.{line_call, no_frame, line_text, lines, answers_to}
use Rattle.frames.specs.Stream.{Feeds}

-- ---- a text, fed to a stream

-- one feeding: what was fed, the buffer before and after, and what came back
pub record Feeding : Type 0 where
  pub block : List ℕ
  pub last : Bool
  pub before : List ℕ
  pub after : List ℕ
  pub got : Fed

-- the block is the next part of what there is of a text, and is said to be the last only where nothing follows
pub record NextOf (text : List ℕ) (f : Feeding) : Type 0 where
  pub more : List ℕ
  pub text_is : text ≡ f.block ++ more
  pub last_is : f.last ≡ true → more ≡ []

-- Each feeding keeps its contract, at the stream that the one before handed back; its block is the next part of what is not used yet.
unfoldable pub Feedings : Stream → List ℕ → List Feeding → Type 0
Feedings stream text [] = Unit
Feedings stream text (f ∷ rest) =
    Feeds f.last stream f.block f.before f.after f.got × (NextOf text f × Feedings f.got.stream (drop f.got.used text) rest)

-- the stream that they hand back, and how much of the text they use
unfoldable pub stream_after : Stream → List Feeding → Stream
stream_after stream [] = stream
stream_after stream (f ∷ rest) = stream_after f.got.stream rest

unfoldable pub used_by : List Feeding → ℕ
used_by [] = 0
used_by (f ∷ rest) = f.got.used + used_by rest

-- what they wrote, one behind the other
abbrev pub text_of : List Feeding → List ℕ
text_of fs = flatten (map (λ (f : Feeding). take f.got.written f.after) fs)

-- the text was fed to its end: the last block of it, and every answer had room
unfoldable pub Finished : List Feeding → Type 0
Finished [] = ⊥
Finished (f ∷ []) = (f.last ≡ true) × (f.got.is_full ≡ false)
Finished (f ∷ g ∷ rest) = Finished (g ∷ rest)

-- What was written is the answers to the first of some lines: nothing is lost, nothing answered twice. Where the text was fed to its end, it is the
-- answers to all of them.
pub record Answered (s : State) (all : List (List ℕ)) (fs : List Feeding) : Type 0 where
  pub answered : List (List ℕ)
  pub later : List (List ℕ)
  pub lines_are : all ≡ answered ++ later
  pub text_is : text_of fs ≡ answers_to s answered
  pub finished : Finished fs → later ≡ []

-- ---- demand 3

-- a line, and the text that it is answered
pub record Line : Type 0 where
  pub line : List ℕ
  pub text : List ℕ

-- a line that is no frame is answered 09ffff, any other its answer's digits
abbrev pub by_line : Protocol Line
by_line = record {
  asked = λ l. call_in (line_call l.line);
  Told = λ l s. RefusedOr (l.text ≡ line_text no_frame) (λ answer. l.text ≡ line_text (answer_bytes answer));
}

-- a text of answers to some lines, from a scheduler on
pub record TextClaim (start : State) (s : QoSScheduler) (asked : List (List ℕ)) (text : List ℕ) : Type 0 where
  pub lines : List Line
  pub lines_are : map (λ (l : Line). l.line) lines ≡ asked
  pub text_is : text ≡ flatten (map (λ (l : Line). l.text) lines)
  pub asks : Asks by_line start s lines

-- what feedings wrote from a scheduler on is the answers to the text's first lines, or all, and these are a history's
pub record StreamClaim (start : State) (s : QoSScheduler) (text : List ℕ) (fs : List Feeding) : Type 0 where
  pub so_far : Answered start (lines text) fs
  pub claim : TextClaim start s so_far.answered (text_of fs)
