-- Document 01, "Task record, queues, holders": the image. Where each part of a state stands in its image, and that writing then reading gives the
-- same state (`reads_back`), as reading then writing gives the same bytes (`writes_back`).
-- Assumes nothing.
use mathlib.Core.Path.{◌≡◌, refl, sym, ap, ◌∙◌}
use mathlib.Core.Bool.{Bool, true, false}
use mathlib.Core.List.{List, [], ◌∷◌, ◌++◌, map, flatten}
use Prim.Native.Nat.{ℕ, zero, suc, ◌+◌, ◌-◌, ◌*◌, ◌≤◌, ◌<◌, ◌^◌}
use native.Mathlib.Nat.{zero-add}
use native.Mathlib.Omega.{arith}
use lib.Dec.{eqb}
use lib.ListN.{length, get_or, take, drop, replicate, length-append, length-drop, take-append-drop, get_or-eq_default}
use lib.Seq.{take_all, take_at, drop_at, take-add, take-append_seam, drop-drop, length-take-le, get_or-drop, ext_get_or}
use Rattle.records.specs.declared.band.QoSClass.{QoSClass}
use Rattle.records.specs.declared.band.QoSClass.TheVariants.{UserInteractive, RealTimeIO, Background}
use Rattle.records.specs.declared.state.ThreadState.{ThreadState}
use Rattle.records.specs.declared.task.TaskControlBlock.{TaskControlBlock}
use Rattle.records.specs.Band.{band_code}
use Rattle.records.specs.Lists.{Each, every_below}
use Rattle.records.specs.ThreadState.{state_code}
use Rattle.records.specs.Task.{empty_record}
use Rattle.records.proofs.Bands.{band_code-small, coded_band_code}
use Rattle.records.proofs.States.{coded_state_code}
use Rattle.queue.specs.Entries.{places}
use Rattle.queue.proofs.Entries.{length-places}
use Rattle.rules.specs.Accepted.{Accepted}
use Rattle.rules.specs.Paper.{record_numbers, flag_number}
use Rattle.rules.specs.State.{State, Queues, band_order, task, of_band, queue}
use Rattle.rules.proofs.Says.{equal, below}
use Rattle.frames.specs.AcceptedImage.{AcceptedBase, AcceptedImage, band_byte, state_byte, in_use_byte}
use Rattle.frames.specs.Answer.{record_widths, record_bytes}
use Rattle.frames.specs.Bytes.{AllBytes, bytes_of, big_endian, part, number_at, total}
use Rattle.frames.specs.Image.{record_length, queue_length, part_lengths, image_parts, image_of, part_at, state_at}
use Rattle.frames.specs.Image.{image_length, base_length, record_place, queues_place, queue_place, holders_place, micros_place, record_at, queue_at}
use Rattle.frames.specs.Image.{or_empty_band, band_of, or_empty_state, state_of, record_from, record_in, records_in, records_bytes, FitsRecord}
use Rattle.frames.specs.Image.{length_byte, slot_byte, queue_in, queue_bytes, queues_bytes, FitsImage}
use Rattle.frames.proofs.Elements.{each_at}
use Rattle.frames.proofs.Numbers.{length-bytes_of, big_endian-bytes_of}
use Rattle.frames.proofs.Sizes.{length-record_bytes}
use Rattle.frames.proofs.Widths.{length_part, bytes-part, part-within, part_of, parts_at, flatten_parts, length_flatten}
use Rattle.frames.proofs.Widths.{bytes_of-number_at, numbers_at-written, written-numbers_at}

-- ---- codes

-- a band, a state, a flag: read from its code, and a code that is read
pub band_of_code : (band : QoSClass) → band_of (band_code band) ≡ band
band_of_code band = ap or_empty_band (coded_band_code band)

pub band_code-of : (code : ℕ) → code < 3 → band_code (band_of code) ≡ code
unfolding every_below
band_code-of = (below (λ code. equal {a = band_code (band_of code)} {b = code}) {n = 3}).0 refl

pub state_of_code : (state : ThreadState) → state_of (state_code state) ≡ state
state_of_code state = ap or_empty_state (coded_state_code state)

pub state_code-of : (code : ℕ) → code < 4 → state_code (state_of code) ≡ code
unfolding every_below
state_code-of = (below (λ code. equal {a = state_code (state_of code)} {b = code}) {n = 4}).0 refl

pub flag_number-small : (flag : Bool) → flag_number flag < 2
flag_number-small true = omega arith
flag_number-small false = omega arith

flag_number_lem : (flag : Bool) → eqb (flag_number flag) 1 ≡ flag
flag_number_lem true = refl
flag_number_lem false = refl

flag_number-of : (code : ℕ) → code < 2 → flag_number (eqb code 1) ≡ code
unfolding every_below
flag_number-of = (below (λ code. equal {a = flag_number (eqb code 1)} {b = code}) {n = 2}).0 refl

-- ---- a record

-- a record from its own numbers
record_from_numbers : (t : TaskControlBlock) → record_from (record_numbers t) ≡ t
record_from_numbers t = rw (band_of_code t.qos, state_of_code t.state, flag_number_lem t.in_use)

-- written, and read back
pub record_in-record_bytes : (t : TaskControlBlock) → FitsRecord t → record_in (record_bytes t) ≡ t
unfolding record_in record_bytes
record_in-record_bytes t fit = ap record_from (numbers_at-written record_widths (record_numbers t) fit) ∙ record_from_numbers t

-- read, and written again
pub record_bytes-record_in : (bytes : List ℕ) → AllBytes bytes → length bytes ≡ record_length → band_byte bytes < 3 → state_byte bytes < 4 → in_use_byte bytes < 2 →
    record_bytes (record_in bytes) ≡ bytes
unfolding record_in record_bytes
record_bytes-record_in bytes h long band state in_use =
    rw (band_code-of (band_byte bytes) band, state_code-of (state_byte bytes) state, flag_number-of (in_use_byte bytes) in_use)
    (written-numbers_at 0 record_widths bytes h (omega (arith, long)) ∙ take_all record_length bytes (omega (arith, long)))

-- ---- the records

-- 47 bytes each
pub length-records_bytes : (ts : List TaskControlBlock) → length (records_bytes ts) ≡ record_length * length ts
unfolding records_bytes flatten
length-records_bytes [] = refl
length-records_bytes (t ∷ ts) = length-append (record_bytes t) (records_bytes ts) ∙ omega (arith, length-record_bytes t, length-records_bytes ts)

-- the next slot's place is the same slot's behind the first
record_at_suc : (slot : ℕ) (bytes : List ℕ) → record_at (suc slot) bytes ≡ record_at slot (drop record_length bytes)
record_at_suc slot bytes =
    let place : record_place (suc slot) ≡ record_length + record_place slot = omega arith in
    ap (λ (n : ℕ). part n record_length bytes) place ∙ ap (take record_length) (sym (drop-drop (record_place slot) record_length bytes))

-- the record of a slot stands at its place
record_in_lem : (ts : List TaskControlBlock) (slot : ℕ) (d : TaskControlBlock) → slot < length ts → record_at slot (records_bytes ts) ≡ record_bytes (get_or ts slot d)
unfolding records_bytes flatten
record_in_lem [] slot d l = absurd (omega arith)
record_in_lem (t ∷ ts) zero d l = take_at (record_bytes t) (records_bytes ts) record_length (length-record_bytes t)
record_in_lem (t ∷ ts) (suc slot) d l =
    record_at_suc slot (records_bytes (t ∷ ts))
    ∙ ap (record_at slot) (drop_at (record_bytes t) (records_bytes ts) record_length (length-record_bytes t))
    ∙ record_in_lem ts slot d (omega arith)

-- records that have each slot's bytes have them all
records_are : (ts : List TaskControlBlock) (bytes : List ℕ) → ((slot : ℕ) → slot < length ts → record_bytes (get_or ts slot empty_record) ≡ record_at slot bytes) →
    records_bytes ts ≡ take (record_length * length ts) bytes
unfolding records_bytes flatten
records_are [] bytes same = refl
records_are (t ∷ ts) bytes same =
    let long : record_length + record_length * length ts ≡ record_length * suc (length ts) = omega arith in
    let others = records_are ts (drop record_length bytes) (λ slot l. same (suc slot) (omega arith) ∙ record_at_suc slot bytes) in
    (λ i. same 0 (omega arith) i ++ others i) ∙ sym (take-add record_length (record_length * length ts) bytes) ∙ ap (λ (n : ℕ). take n bytes) long

-- so many are read, and each from its slot's bytes
length-records_in : (n : ℕ) (bytes : List ℕ) → length (records_in n bytes) ≡ n
unfolding records_in
length-records_in zero bytes = refl
length-records_in (suc n) bytes = ap suc (length-records_in n (drop record_length bytes))

get_d_records_in : (n : ℕ) (bytes : List ℕ) (slot : ℕ) (d : TaskControlBlock) → slot < n → get_or (records_in n bytes) slot d ≡ record_in (record_at slot bytes)
unfolding records_in
get_d_records_in zero bytes slot d l = absurd (omega (arith, l))
get_d_records_in (suc n) bytes zero d l = refl
get_d_records_in (suc n) bytes (suc slot) d l = get_d_records_in n (drop record_length bytes) slot d (omega (arith, l)) ∙ ap record_in (sym (record_at_suc slot bytes))

-- ---- the state that bytes stand for

-- 64 records are read
pub length-tasks : (image : List ℕ) → length (state_at image).tasks ≡ 64
unfolding state_at
length-tasks image = length-records_in 64 (part_at 0 image)

-- a number of 64 and above is no slot
pub task-past : (image : List ℕ) (slot : ℕ) → 64 ≤ slot → task (state_at image) slot ≡ empty_record
task-past image slot h = get_or-eq_default (state_at image).tasks empty_record (omega (arith, length-tasks image))

-- a slot's record is read from its 47 bytes, a band's queue from its 65
record_there : (image : List ℕ) (slot : ℕ) → slot < 64 → record_at slot (part_at 0 image) ≡ record_at slot image
record_there image slot l =
    part-within 0 queues_place (record_place slot) record_length image (omega arith) ∙ ap (λ (k : ℕ). part k record_length image) (zero-add (record_place slot))

pub task-read : (image : List ℕ) (slot : ℕ) → slot < 64 → task (state_at image) slot ≡ record_in (record_at slot image)
unfolding state_at
task-read image slot l = get_d_records_in 64 (part_at 0 image) slot _ l ∙ ap record_in (record_there image slot l)

queue-there : (image : List ℕ) (band : QoSClass) → part (queue_length * band_code band) queue_length (part_at 1 image) ≡ queue_at band image
queue-there image band = part-within queues_place (3 * queue_length) (queue_length * band_code band) queue_length image (omega (arith, band_code-small band))

pub queue-read : (image : List ℕ) (band : QoSClass) → queue (state_at image) band ≡ queue_in (queue_at band image)
unfolding state_at
queue-read image UserInteractive = ap queue_in (queue-there image UserInteractive)
queue-read image RealTimeIO = ap queue_in (queue-there image RealTimeIO)
queue-read image Background = ap queue_in (queue-there image Background)

-- ---- a queue

-- 65 bytes
pub length-queue_bytes : (es : List ℕ) → length es ≤ 64 → length (queue_bytes es) ≡ queue_length
unfolding queue_bytes
length-queue_bytes es small = ap suc (length-places es small)

-- written, and read back
pub queue_in-queue_bytes : (es : List ℕ) → queue_in (queue_bytes es) ≡ es
unfolding queue_bytes places
queue_in-queue_bytes es = take-append_seam es (replicate (64 - length es) 0)

-- zeros, and nothing, read as 0
pub get_d_zeros : (n place : ℕ) → ◌≡◌ {A = ℕ} (get_or (replicate n 0) place 0) 0
get_d_zeros zero place = refl
get_d_zeros (suc n) zero = refl
get_d_zeros (suc n) (suc place) = get_d_zeros n place

-- so many zeros
zeros : (l : List ℕ) → ((place : ℕ) → place < length l → get_or l place 0 ≡ 0) → replicate (length l) 0 ≡ l
zeros [] h = refl
zeros (x ∷ l) h = λ i. sym (h 0 (omega arith)) i ∷ zeros l (λ place low. h (suc place) (omega (arith, low))) i

-- read, and written again
pub queue_bytes-queue_in : (bytes : List ℕ) → length bytes ≡ queue_length → length_byte bytes ≤ 64 →
    ((place : ℕ) → length_byte bytes ≤ place → place < 64 → slot_byte place bytes ≡ 0) → queue_bytes (queue_in bytes) ≡ bytes
unfolding queue_bytes places
queue_bytes-queue_in [] long small unused = absurd (omega (arith, long))
queue_bytes-queue_in (n ∷ es) long small unused =
    let taken : length (take n es) ≡ n = length-take-le n es (omega (arith, long, small)) in
    let left : 64 - length (take n es) ≡ length (drop n es) = omega (arith, long, taken, length-drop n es) in
    let none = zeros (drop n es) (λ place low. get_or-drop n es place 0 ∙ unused (n + place) (omega arith) (omega (arith, low, long, length-drop n es))) in
    (λ i. taken i ∷ (take n es ++ replicate (left i) 0))
    ∙ ap (λ (l : List ℕ). n ∷ (take n es ++ l)) none
    ∙ ap (λ (l : List ℕ). n ∷ l) (take-append-drop n es)

-- ---- the image, part by part

module _ (q : Queues) (short : (band : QoSClass) → length (of_band q band) ≤ 64) where
  abbrev queues : List (List ℕ)
  queues = map (λ band. queue_bytes (of_band q band)) band_order

  band_length : (band : QoSClass) → length (queue_bytes (of_band q band)) ≡ queue_length
  band_length band = length-queue_bytes (of_band q band) (short band)

  pub length_queues_bytes : length (queues_bytes q) ≡ 3 * queue_length
  unfolding queues_bytes
  length_queues_bytes = length_flatten queues ∙ omega (arith, band_length UserInteractive, band_length RealTimeIO, band_length Background)

  -- the queue of a band stands at its place
  queue_in_lem : (band : QoSClass) → part (queue_length * band_code band) queue_length (queues_bytes q) ≡ queue_bytes (of_band q band)
  unfolding queues_bytes
  queue_in_lem UserInteractive = part_of queues 0 0 (omega arith) refl (band_length UserInteractive)
  queue_in_lem RealTimeIO = part_of queues 1 queue_length (omega arith) (omega (arith, band_length UserInteractive)) (band_length RealTimeIO)
  queue_in_lem Background =
      part_of queues 2 (2 * queue_length) (omega arith) (omega (arith, band_length UserInteractive, band_length RealTimeIO)) (band_length Background)

module _ (s : State) (slots : length s.tasks ≡ 64) where
  length_records : length (records_bytes s.tasks) ≡ queues_place
  length_records = length-records_bytes s.tasks ∙ ap (λ (n : ℕ). record_length * n) slots

  -- the records, and the 47 bytes of a slot
  pub records_at : part_at 0 (image_of s) ≡ records_bytes s.tasks
  unfolding image_of
  records_at = part_of (image_parts s) 0 0 (omega arith) refl length_records

  pub record_at_lem : (slot : ℕ) → slot < 64 → record_at slot (image_of s) ≡ record_bytes (task s slot)
  record_at_lem slot l =
      sym (record_there (image_of s) slot l) ∙ ap (record_at slot) records_at ∙ record_in_lem s.tasks slot empty_record (omega (arith, slots, l))

  module _ (lengths : (band : QoSClass) → length (queue s band) ≤ 64) where
    length_queues : length (queues_bytes s.queues) ≡ 3 * queue_length
    length_queues = length_queues_bytes s.queues lengths

    -- the queues, and the 65 bytes of a band
    pub queues_at : part_at 1 (image_of s) ≡ queues_bytes s.queues
    unfolding image_of
    queues_at = part_of (image_parts s) 1 queues_place (omega arith) (omega (arith, length_records)) length_queues

    pub queue_at_lem : (band : QoSClass) → queue_at band (image_of s) ≡ queue_bytes (queue s band)
    queue_at_lem band =
        sym (queue-there (image_of s) band) ∙ ap (part (queue_length * band_code band) queue_length) queues_at ∙ queue_in_lem s.queues lengths band

    module _ (cores : length s.holders ≡ 64) where
      -- the holders, the microseconds, and the whole
      pub holders_at : part_at 2 (image_of s) ≡ s.holders
      unfolding image_of
      holders_at = part_of (image_parts s) 2 holders_place (omega arith) (omega (arith, length_records, length_queues)) cores

      pub micros_at : part_at 3 (image_of s) ≡ bytes_of 8 s.micros
      unfolding image_of
      micros_at = part_of (image_parts s) 3 micros_place (omega arith) (omega (arith, length_records, length_queues, cores)) (length-bytes_of 8 s.micros)

      pub micros_read : s.micros < 256 ^ 8 → number_at micros_place 8 (image_of s) ≡ s.micros
      micros_read fits = ap big_endian micros_at ∙ big_endian-bytes_of 8 s.micros fits

      -- all of them have their lengths
      pub lengths_are : map length (image_parts s) ≡ part_lengths
      lengths_are = λ i. length_records i ∷ length_queues i ∷ cores i ∷ length-bytes_of 8 s.micros i ∷ []

      pub length_image : length (image_of s) ≡ image_length
      unfolding image_of
      length_image = length_flatten (image_parts s) ∙ ap total lengths_are

-- ---- written, and read back

module _ (s : State) (a : Accepted s) where
  -- "The image (added) is 3,275 bytes"
  pub length_image_of : length (image_of s) ≡ image_length
  length_image_of = length_image s a.slots a.lengths a.cores

  -- the records and each queue are read back
  records_back : Each FitsRecord s.tasks → (state_at (image_of s)).tasks ≡ s.tasks
  records_back fit =
      ext_get_or empty_record (state_at (image_of s)).tasks s.tasks (length-tasks (image_of s) ∙ sym a.slots) (λ slot low.
      let l : slot < 64 = omega (arith, low, length-tasks (image_of s)) in
      task-read (image_of s) slot l
      ∙ ap record_in (record_at_lem s a.slots slot l)
      ∙ record_in-record_bytes (task s slot) (each_at FitsRecord s.tasks slot empty_record fit (omega (arith, a.slots))))

  queue_back : (band : QoSClass) → queue (state_at (image_of s)) band ≡ queue s band
  queue_back band = queue-read (image_of s) band ∙ ap queue_in (queue_at_lem s a.slots a.lengths band) ∙ queue_in-queue_bytes (queue s band)

  -- "writing then reading the image gives the same state"
  pub reads_back : FitsImage s → state_at (image_of s) ≡ s
  unfolding state_at
  reads_back fits = λ i. record {
    tasks = records_back fits.records i;
    queues = record { interactive = queue_back UserInteractive i; real_time = queue_back RealTimeIO i; background = queue_back Background i };
    holders = holders_at s a.slots a.lengths a.cores i;
    micros = micros_read s a.slots a.lengths a.cores fits.micros i;
  }

-- ---- read, and written again

module _ (image : List ℕ) (long : base_length ≤ length image) (a : AcceptedBase image) where
  -- each part is written again as it was
  record_again : (slot : ℕ) → slot < 64 → record_bytes (task (state_at image) slot) ≡ record_at slot image
  record_again slot l =
      ap record_bytes (task-read image slot l)
      ∙ record_bytes-record_in (record_at slot image) (bytes-part (record_place slot) record_length image a.bytes)
      (length_part (record_place slot) record_length image (omega arith)) (a.bands slot l) (a.states slot l) (a.in_uses slot l)

  records_again : records_bytes (state_at image).tasks ≡ part_at 0 image
  records_again =
      records_are (state_at image).tasks image (λ slot l. record_again slot (omega (arith, length-tasks image)))
      ∙ ap (λ (n : ℕ). take (record_length * n) image) (length-tasks image)

  queue_again : (band : QoSClass) → queue_bytes (queue (state_at image) band) ≡ queue_at band image
  queue_again band =
      ap queue_bytes (queue-read image band)
      ∙ queue_bytes-queue_in (queue_at band image) (length_part (queue_place band) queue_length image (omega (arith, band_code-small band)))
      (a.lengths band) (a.unused band)

  queues_again : queues_bytes (state_at image).queues ≡ part_at 1 image
  unfolding queues_bytes
  queues_again =
      ap flatten (λ i. queue_again UserInteractive i ∷ queue_again RealTimeIO i ∷ queue_again Background i ∷ [])
      ∙ flatten_parts queues_place (queue_length ∷ queue_length ∷ queue_length ∷ []) image

  parts_again : image_parts (state_at image) ≡ parts_at 0 part_lengths image
  unfolding state_at
  parts_again = λ i. records_again i ∷ queues_again i ∷ part_at 2 image ∷ bytes_of-number_at micros_place 8 image a.bytes long i ∷ []

-- "reading then writing gives the same bytes"
pub writes_back : (image : List ℕ) → AcceptedImage image → image_of (state_at image) ≡ image
unfolding image_of
writes_back image a =
    ap flatten (parts_again image a.base.long a.base)
    ∙ flatten_parts 0 part_lengths image
    ∙ take_all image_length image (omega (arith, a.length_is))
