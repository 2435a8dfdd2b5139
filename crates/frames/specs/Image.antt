-- Document 01, "Task record, queues, holders": the image. `image_of` is the bytes of a state, `state_at` the state that bytes stand for; both are
-- total, and which bytes are an image that is accepted is AcceptedImage.antt's matter. Both go by one list of parts: a part is a length in
-- `part_lengths`, its bytes in `image_parts` and what they stand for in `state_at`.
use mathlib.Core.List.{List, [], ◌∷◌, map, flatten}
use Rattle.std.specs.Prelude.{ℕ, zero, suc, ◌+◌, ◌*◌, ◌<◌, ◌^◌, eqb, length, get_or, take, drop, Option, None, Some}
use Rattle.records.specs.declared.band.QoSClass.{QoSClass}
use Rattle.records.specs.declared.state.ThreadState.{ThreadState}
use Rattle.records.specs.declared.task.TaskControlBlock.{TaskControlBlock}
use Rattle.records.specs.Band.{band_code, coded_band}
use Rattle.records.specs.Lists.{Each}
use Rattle.records.specs.ThreadState.{coded_state}
use Rattle.records.specs.Task.{empty_record}
use Rattle.queue.specs.Entries.{places}
use Rattle.rules.specs.Paper.{record_numbers}
use Rattle.rules.specs.State.{State, Queues, band_order, of_band}
use Rattle.frames.specs.Answer.{record_widths, record_bytes}
use Rattle.frames.specs.Bytes.{bytes_of, big_endian, part, numbers_at, total, Fit}

-- ---- a record

-- "A record is 47 bytes"
abbrev pub record_length : ℕ
record_length = total record_widths

-- records, one behind the other
unfoldable pub records_bytes : List TaskControlBlock → List ℕ
records_bytes tasks = flatten (map record_bytes tasks)

-- a band or state by its code; a byte that is no code reads as the empty record's
abbrev pub or_empty_band : Option QoSClass → QoSClass
or_empty_band None = empty_record.qos
or_empty_band (Some q) = q

abbrev pub band_of : ℕ → QoSClass
band_of code = or_empty_band (coded_band code)

abbrev pub or_empty_state : Option ThreadState → ThreadState
or_empty_state None = empty_record.state
or_empty_state (Some s) = s

abbrev pub state_of : ℕ → ThreadState
state_of code = or_empty_state (coded_state code)

-- a record from its ten numbers, which stand in the paper's order
abbrev pub record_from : List ℕ → TaskControlBlock
record_from numbers = record {
  tid = record { 0 = get_or numbers 0 0 };
  qos = band_of (get_or numbers 1 0);
  state = state_of (get_or numbers 2 0);
  context_handle = get_or numbers 3 0;
  cr3 = get_or numbers 4 0;
  rsp0 = get_or numbers 5 0;
  cpu_affinity = get_or numbers 6 0;
  slice_budget_us = get_or numbers 7 0;
  consumed_slice_us = get_or numbers 8 0;
  in_use = eqb (get_or numbers 9 0) 1;
}

-- the record that 47 bytes stand for
unfoldable pub record_in : List ℕ → TaskControlBlock
record_in bytes = record_from (numbers_at 0 record_widths bytes)

-- the first n records
unfoldable pub records_in : ℕ → List ℕ → List TaskControlBlock
records_in zero bytes = []
records_in (suc n) bytes = record_in (take record_length bytes) ∷ records_in n (drop record_length bytes)

-- ---- a queue

-- "a length byte and 64 slot bytes"
abbrev pub queue_length : ℕ
queue_length = 1 + 64

-- "from front to tail, unused ones 0"
unfoldable pub queue_bytes : List ℕ → List ℕ
queue_bytes es = length es ∷ places es

-- "three queues", in the order of the bands
unfoldable pub queues_bytes : Queues → List ℕ
queues_bytes q = flatten (map (λ band. queue_bytes (of_band q band)) band_order)

-- the length byte, a slot byte, the entries
abbrev pub length_byte : List ℕ → ℕ
length_byte bytes = get_or bytes 0 0

abbrev pub slot_byte : ℕ → List ℕ → ℕ
slot_byte place bytes = get_or bytes (suc place) 0

abbrev pub queue_in : List ℕ → List ℕ
queue_in bytes = part 1 (length_byte bytes) bytes

-- the three queues
abbrev pub queues_in : List ℕ → Queues
queues_in bytes = record {
  interactive = queue_in (part 0 queue_length bytes);
  real_time = queue_in (part queue_length queue_length bytes);
  background = queue_in (part (2 * queue_length) queue_length bytes);
}

-- ---- the image: its parts, one behind the other

-- "64 records (3,008), three queues [..] (195), holders (64), system microseconds (8)"
abbrev pub part_lengths : List ℕ
part_lengths = 64 * record_length ∷ 3 * queue_length ∷ 64 ∷ 8 ∷ []

-- the bytes of each
abbrev pub image_parts : State → List (List ℕ)
image_parts s = records_bytes s.tasks ∷ queues_bytes s.queues ∷ s.holders ∷ bytes_of 8 s.micros ∷ []

unfoldable pub image_of : State → List ℕ
image_of s = flatten (image_parts s)

-- where each begins, and its bytes there
abbrev pub place_of : ℕ → ℕ
place_of n = total (take n part_lengths)

abbrev pub part_at : ℕ → List ℕ → List ℕ
part_at n image = part (place_of n) (get_or part_lengths n 0) image

-- what each stands for
unfoldable pub state_at : List ℕ → State
state_at image = record {
  tasks = records_in 64 (part_at 0 image);
  queues = queues_in (part_at 1 image);
  holders = part_at 2 image;
  micros = big_endian (part_at 3 image);
}

-- ---- the same places by name

-- "The image (added) is 3,275 bytes"
abbrev pub image_length : ℕ
image_length = total part_lengths

-- what these four parts take, whatever stands behind them
abbrev pub base_length : ℕ
base_length = place_of 4

abbrev pub queues_place : ℕ
queues_place = place_of 1

abbrev pub holders_place : ℕ
holders_place = place_of 2

abbrev pub micros_place : ℕ
micros_place = place_of 3

-- a slot's record and a band's queue: where they begin, and their 47 and 65 bytes
abbrev pub record_place : ℕ → ℕ
record_place slot = record_length * slot

abbrev pub queue_place : QoSClass → ℕ
queue_place band = queues_place + queue_length * band_code band

abbrev pub record_at : ℕ → List ℕ → List ℕ
record_at slot image = part (record_place slot) record_length image

abbrev pub queue_at : QoSClass → List ℕ → List ℕ
queue_at band image = part (queue_place band) queue_length image

-- ---- sizes

-- a record whose numbers fit their fields
abbrev pub FitsRecord : TaskControlBlock → Type 0
FitsRecord t = Fit record_widths (record_numbers t)

-- a state whose numbers fit the fields of an image: those of the records, and the microseconds; acceptance bounds all others
pub record FitsImage (s : State) : Type 0 where
  pub records : Each FitsRecord s.tasks
  pub micros : s.micros < 256 ^ 8
