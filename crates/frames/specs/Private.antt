-- What the private functions presume and promise, and what their proofs cite of it. Nobody above this crate has to read it.
use Rattle.std.specs.Prelude.{◌≡◌, Bool, cond, List, [], ◌++◌, ℕ, ◌+◌, ◌-◌, ◌≤◌, ◌<◌, ◌^◌, eqb, leb, length, get_or, Option, None, Some, Result, Ok, Err, MatchResult, ltb}
use Rattle.records.specs.declared.band.QoSClass.{QoSClass}
use Rattle.records.specs.declared.task.TaskControlBlock.{TaskControlBlock}
use Rattle.records.specs.Lists.{every, count}
use Rattle.rules.specs.declared.answer.Answer.{Answer}
use Rattle.rules.specs.declared.call.Call.{Call}
use Rattle.rules.specs.declared.answer.Value.{Value}
use Rattle.rules.specs.Paper.{value_numbers}
use Rattle.rules.specs.State.{State}
use Rattle.rules.specs.Step.{step}
use Rattle.frames.specs.declared.refusal.HostError.{HostError}
use Rattle.frames.specs.Image.{image_of, state_at, queue_at, length_byte, queues_place, holders_place, micros_place, record_place, queues_bytes}
use Rattle.frames.specs.declared.stream.Fed.{Fed}
use Rattle.frames.specs.declared.stream.Stream.{Stream}
use Rattle.frames.specs.Answer.{record_bytes, value_widths}
use Rattle.std.proofs.lemmas.List.Edits.{sets}
use Rattle.std.specs.Borrow.{Bor}
use Rattle.records.specs.Task.{empty_record}
use Rattle.frames.specs.Bytes.{number_at, bytes_of, written}
use Rattle.frames.specs.Hex.{digit_value}
use Rattle.frames.specs.Lines.{line_text}
use Rattle.frames.specs.ReadWrite.{image_status}
use Rattle.frames.specs.Stream.{held_of, held_in}

-- ---- numbers and digits

-- r is the number that stands at a place, and so fits its width
pub record IsNumber (at width : ℕ) (bytes : List ℕ) (r : ℕ) : Type 0 where
  pub is : r ≡ number_at at width bytes
  pub small : r < 256 ^ width

-- r is what a digit stands for, and so below 16
pub record IsDigitValue (d r : ℕ) : Type 0 where
  pub is : r ≡ digit_value d
  pub small : r < 16

-- ---- parts of an answer

unfoldable pub value_bytes : Value → List ℕ
value_bytes v = written (value_widths v) (value_numbers v)

-- ---- reading an image

-- the image's bytes where they are accepted, or its refusal
abbrev pub FindsImage : List ℕ → Result (Bor (List ℕ)) HostError → Type 0
FindsImage image r = MatchResult r (λ found. (found.now ≡ image) × (image_status image ≡ Ok tt)) (λ e. image_status image ≡ Err e)

-- ---- writing an image

-- the image with all that is not a record written over it
abbrev pub with_rest : State → List ℕ → List ℕ
with_rest s image = sets (sets (sets image queues_place (queues_bytes s.queues)) holders_place s.holders) micros_place (bytes_of 8 s.micros)

-- a slot's record is written, if it is a slot of the table
abbrev pub put_slot : List TaskControlBlock → ℕ → List ℕ → List ℕ
put_slot tasks slot image = cond (ltb slot 64) (sets image (record_place slot) (record_bytes (get_or tasks slot empty_record))) image

-- ---- unused bytes

-- every byte is 0
abbrev pub all_zero : List ℕ → Bool
all_zero bytes = every (λ b. eqb b 0) bytes

-- ---- counting the entries of each slot

-- "lengths are at most 64"
abbrev pub LengthsFit : List ℕ → Type 0
LengthsFit image = (band : QoSClass) → length_byte (queue_at band image) ≤ 64

-- no count is above n
abbrev pub AtMost : ℕ → List ℕ → Type 0
AtMost n counts = (slot : ℕ) → get_or counts slot 0 ≤ n

-- each slot's count has gained as often as the slot stands among these entries
pub record Counted (es before after : List ℕ) : Type 0 where
  pub whole : length after ≡ 64
  pub counts_are : (slot : ℕ) → slot < 64 → get_or after slot 0 ≡ get_or before slot 0 + count slot es

-- ---- a call on an image

-- a call on an accepted image: its answer, and the image of the state after it
pub record CalledOn (call : Call) (before after : List ℕ) (answer : Answer) : Type 0 where
  pub answer_is : answer ≡ (step call (state_at before)).answer
  pub image_is : after ≡ image_of (step call (state_at before)).state

-- ---- text in blocks

-- a line of text as far as it has room: all of it, or nothing
abbrev pub fitting : ℕ → List ℕ → List ℕ
fitting room line = cond (leb (length line) room) line []

-- how many bytes a line has, if it has room
abbrev pub size_in : ℕ → List ℕ → Option ℕ
size_in room line = cond (leb (length line) room) (Some (length line)) None

-- an answer as a line of text from a place on, if it has room there
pub record PutsLine (bytes : List ℕ) (at : ℕ) (before after : List ℕ) (r : Option ℕ) : Type 0 where
  pub buffer_is : after ≡ sets before at (fitting (length before - at) (line_text bytes))
  pub size_is : r ≡ size_in (length before - at) (line_text bytes)

-- the stream with more of its line held, and the other parts as they are given
pub record Stops (stream : Stream) (line : List ℕ) (used written : ℕ) (full : Bool) (r : Fed) : Type 0 where
  pub state_is : r.stream.state ≡ stream.state
  pub held_is : held_in r.stream ≡ held_of (held_in stream ++ line)
  pub used_is : r.used ≡ used
  pub written_is : r.written ≡ written
  pub full_is : r.is_full ≡ full
