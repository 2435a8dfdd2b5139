-- Text that comes in blocks of any size, answered into buffers of any size: what is fed to a stream, and what comes back. Document 01 does not speak
-- of blocks; what they are for is that the answers are those to the lines of the whole text, which is claimed above (crate claims, specs/TextClaim).
use Rattle.std.specs.Prelude.{Bool, true, false, cond, ◌&&◌, List, [], ◌∷◌, ◌++◌, ◌≡◌, ℕ, suc, ◌+◌, ◌-◌, ◌≤◌, eqb, leb, length, take}
use Rattle.std.proofs.lemmas.List.Edits.{sets}
use Rattle.scheduler.specs.declared.scheduler.QoSScheduler.{QoSScheduler}
use Rattle.scheduler.specs.Scheduler.{abs}
use Rattle.rules.specs.State.{State}
use Rattle.frames.specs.declared.held.Held.{Held}
use Rattle.frames.specs.declared.stream.Fed.{Fed}
use Rattle.frames.specs.declared.stream.Stream.{Stream}
use Rattle.frames.specs.Lines.{newline, some, answer_to, state_after}

-- ---- what a block makes of a state and of the start of a line

-- no frame has more digits
abbrev pub longest_line : ℕ
longest_line = 60

-- no answer as a line of text has more bytes, its newline included
abbrev pub longest_answer : ℕ
longest_answer = 103

-- What is held of a line: of one that is longer than any frame only so much that this shows, since it is refused whatever follows.
abbrev pub held_most : ℕ
held_most = longest_line + 1

abbrev pub held_of : List ℕ → List ℕ
held_of line = take held_most line

pub record FedSoFar : Type 0 where
  -- the answers
  pub text : List ℕ
  -- how many bytes of the block are done with
  pub used : ℕ
  -- the state after the lines that are answered, and what is held of the next one
  pub state : State
  pub held : List ℕ
  -- whether that line is at its end, and its answer has no room
  pub full : Bool

-- nothing more is answered
abbrev pub waits : Bool → State → List ℕ → FedSoFar
waits full s held = record { text = []; used = 0; state = s; held = held; full = full }

-- this answer before the others
abbrev pub answering : List ℕ → FedSoFar → FedSoFar
answering text r = record { text = text ++ r.text; used = r.used; state = r.state; held = r.held; full = r.full }

-- one more byte of the block
abbrev pub past_byte : FedSoFar → FedSoFar
past_byte r = record { text = r.text; used = suc r.used; state = r.state; held = r.held; full = r.full }

-- the line that is held is at its end: it is answered and then comes what follows, unless its answer has no room
abbrev pub ended : ℕ → State → List ℕ → FedSoFar → FedSoFar
ended room s held next = cond (leb (length (answer_to held s)) room) (answering (answer_to held s) next) (waits true s held)

-- The bytes of a block, one after the other: a newline ends the line that is held, any other byte goes on with it. The end of the block ends it only
-- where the block is the last, and where there is a line at all.
unfoldable pub fed : Bool → ℕ → State → List ℕ → List ℕ → FedSoFar
fed last room s held [] = cond (last && some held) (ended room s held (waits false (state_after held s) [])) (waits false s held)
fed last room s held (b ∷ block) =
    cond (eqb b newline)
    (ended room s held (past_byte (fed last (room - length (answer_to held s)) (state_after held s) [] block)))
    (past_byte (fed last room s (held_of (held ++ (b ∷ []))) block))

-- ---- what the functions promise

-- what is held of a line that is not answered yet, and by a stream
unfoldable pub held_bytes : Held → List ℕ
held_bytes held = take held.len held.bytes

abbrev pub held_in : Stream → List ℕ
held_in stream = held_bytes stream.held

-- a stream over a scheduler, at the start of a line
pub record Begins (s : QoSScheduler) (stream : Stream) : Type 0 where
  pub state_is : stream.state ≡ s
  pub held_is : held_in stream ≡ []

-- what a block makes of a stream, with so much room
abbrev pub fed_by : Bool → Stream → List ℕ → ℕ → FedSoFar
fed_by last stream block room = fed last room (abs stream.state) (held_in stream) block

-- A block fed to a stream: what is reached stands in the stream, its text at the front of the buffer, and behind that the buffer is as it was.
-- `written_in` follows from the other fields and stands there for callers.
pub record Feeds (last : Bool) (stream : Stream) (block before after : List ℕ) (r : Fed) : Type 0 where
  pub state_is : abs r.stream.state ≡ (fed_by last stream block (length before)).state
  pub held_is : held_in r.stream ≡ (fed_by last stream block (length before)).held
  pub used_is : r.used ≡ (fed_by last stream block (length before)).used
  pub full_is : r.is_full ≡ (fed_by last stream block (length before)).full
  pub written_is : r.written ≡ length (fed_by last stream block (length before)).text
  pub written_in : r.written ≤ length before
  pub buffer_is : after ≡ sets before 0 (fed_by last stream block (length before)).text
