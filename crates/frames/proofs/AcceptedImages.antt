-- Accepted images: the test that computes passes exactly the bytes that meet document 01's list of conditions, of the base as of the image; and an
-- accepted state whose numbers fit has an accepted image. Assumes nothing.
use mathlib.Core.Path.{◌≡◌, refl, sym, ap, subst, ◌∙◌}
use mathlib.Core.List.{List, [], ◌∷◌, ◌++◌, flatten}
use mathlib.Core.Logic.Iff
use mathlib.Core.Logic.{⊎_elim}
use Prim.Native.Nat.{ℕ, zero, suc, ◌-◌, ◌≤◌, ◌<◌}
use native.Mathlib.Numerals.{one-add}
use native.Mathlib.Omega.{arith}
use lib.Dec.{ltb}
use lib.ListN.{length, get_or, drop, replicate, length-take, get_or-eq_default}
use Rattle.records.specs.declared.band.QoSClass.{QoSClass}
use Rattle.records.specs.declared.band.QoSClass.TheVariants.{UserInteractive, RealTimeIO, Background}
use Rattle.records.specs.declared.task.TaskControlBlock.{TaskControlBlock}
use Rattle.records.specs.Task.{empty_record}
use Rattle.records.proofs.Bands.{band_code-small}
use Rattle.records.proofs.States.{state_code-small}
use Rattle.queue.specs.Entries.{places}
use Rattle.records.specs.Lists.{Each}
use Rattle.rules.specs.Accepted.{Accepted, ReadyOf}
use Rattle.rules.specs.Paper.{record_numbers}
use Rattle.rules.specs.State.{State, none_byte, task, queue, holder}
use Rattle.rules.proofs.Invariant.{ready_in_table, used_in_table, accepted-invariant}
use Rattle.rules.proofs.Says.{Says, equal, less, at_most, same_flag, same-state, ready_of_lem, may-hold}
use Rattle.rules.proofs.Says.{both, either, never, implies, by_place, all_of, below, each, bands}
use Rattle.frames.specs.AcceptedImage.{AcceptedBase, AcceptedImage, slot_fits, place_fits, band_fits, core_fits, accepts_base, accepts_image}
use Rattle.frames.specs.Answer.{record_widths, record_bytes}
use Rattle.frames.specs.Bytes.{AllBytes, numbers_at}
use Rattle.frames.specs.Fits.{HasImage}
use Rattle.frames.specs.Image.{queue_length, base_length, queue_place, holders_place, records_bytes, queue_bytes, queues_bytes, image_parts, image_of}
use Rattle.frames.specs.Image.{length_byte, slot_byte, queue_in, state_at, record_at, queue_at, FitsImage, FitsRecord}
use Rattle.frames.proofs.Elements.{each_append, each_flatten, each_at}
use Rattle.frames.proofs.Numbers.{bytes_of-bytes, written-bytes}
use Rattle.frames.proofs.Widths.{length_part, get_d_part, numbers_at-written}
use Rattle.frames.proofs.Images.{flag_number-small, length-tasks, queue-read, get_d_zeros, record_at_lem, queue_at_lem, length_image_of, reads_back}

-- ---- a queue that is read

-- the length byte bounds it
pub length-queue_in : (bytes : List ℕ) → length (queue_in bytes) ≤ length_byte bytes
length-queue_in bytes = rw (length-take (length_byte bytes) (drop 1 bytes)) (omega arith)

-- an entry that is read is its slot byte
pub entry_read : (bytes : List ℕ) (place : ℕ) → place < length_byte bytes → get_or (queue_in bytes) place 0 ≡ slot_byte place bytes
entry_read bytes place h = get_d_part 1 (length_byte bytes) bytes place 0 h ∙ ap (λ (n : ℕ). get_or bytes n 0) (one-add place)

-- the same for the three of a state that is read
pub entry_is : (image : List ℕ) (band : QoSClass) (place : ℕ) → place < length_byte (queue_at band image) →
    get_or (queue (state_at image) band) place 0 ≡ slot_byte place (queue_at band image)
entry_is image band place h = rw (queue-read image band) (entry_read (queue_at band image) place h)

-- ---- the test and the conditions

module _ (image : List ℕ) (long : base_length ≤ length image) where
  -- a length byte of at most 64 is the length of its queue
  pub entries_are : (band : QoSClass) → length_byte (queue_at band image) ≤ 64 → length (queue (state_at image) band) ≡ length_byte (queue_at band image)
  entries_are band small =
      let room : length (queue_at band image) ≡ queue_length = length_part (queue_place band) queue_length image (omega (arith, band_code-small band)) in
      ap length (queue-read image band) ∙ length_part 1 (length_byte (queue_at band image)) (queue_at band image) (omega arith)

-- the test passes exactly the bases that are accepted
pub accepts-base : (image : List ℕ) → Says (accepts_base image) (AcceptedBase image)
unfolding accepts_base slot_fits place_fits band_fits core_fits state_at
accepts-base image =
    Iff.trans (both (both (both (both (both at_most (all_of (λ _. less) image))
    (below (λ _. both (both (both less less) less) (both (both (both same_flag (never equal)) (either equal equal)) less))))
    (bands (λ band. both at_most (below (λ _. by_place (ready_of_lem band _) equal)))))
    (below (λ _. implies same-state equal)))
    (below (λ _. either equal may-hold))) (
      λ (((((long, bytes), slots), queues), once), holders). record {
        long = long;
        bytes = bytes;
        bands = λ slot h. (slots slot h).0.0.0;
        states = λ slot h. (slots slot h).0.0.1;
        in_uses = λ slot h. (slots slot h).0.1;
        lengths = λ band. (queues band).0;
        unused = λ band place past h. ((queues band).1 place h).1 past;
        state = record {
          slots = length-tasks image;
          cores = length_part holders_place 64 image (omega arith);
          in_use = λ slot h. (slots slot h).1.0.0.0;
          masks = λ slot h. (slots slot h).1.0.0.1;
          lengths = λ band. omega (arith, entries_are image long band (queues band).0, (queues band).0);
          entries = λ band place h.
              let inside : place < length_byte (queue_at band image) = omega (arith, entries_are image long band (queues band).0) in
              rw (entry_is image band place inside) (((queues band).1 place (omega (arith, (queues band).0))).0 inside);
          once = once;
          holders = holders;
          budgets = λ slot h. (slots slot h).1.0.1;
          consumed = λ slot h. (slots slot h).1.1;
        };
      },
      λ a.
          let s = a.state in
          let entries : (band : QoSClass) (place : ℕ) → place < length_byte (queue_at band image) →
          ReadyOf band (task (state_at image) (slot_byte place (queue_at band image))) =
          λ band place h. rw (entry_is image band place h) at (s.entries band place (omega (arith, entries_are image a.long band (a.lengths band)))) in
          search (a.long, a.bytes, a.bands, a.states, a.in_uses, a.lengths, a.unused, entries, s.in_use, s.masks, s.once, s.holders, s.budgets, s.consumed)
          depth 10,
    )

-- the test passes exactly the images that are accepted
pub accepts-image : (image : List ℕ) → Says (accepts_image image) (AcceptedImage image)
unfolding accepts_image
accepts-image image =
    Iff.trans (both equal Iff.rfl) (
      λ (long, passed). record { length_is = long; base = (accepts-base image).0 passed },
      λ a. (a.length_is, (accepts-base image).1 a.base),
    )

-- the state that an accepted image stands for is accepted
pub accepted-state : (image : List ℕ) → AcceptedImage image → Accepted (state_at image)
accepted-state image a = a.base.state

-- ---- every element of the image of an accepted state is a byte

-- a list that has a byte at every place
bytes_by_place : (l : List ℕ) (d : ℕ) → ((i : ℕ) → i < length l → get_or l i d < 256) → AllBytes l
bytes_by_place l d h = let byte : (b : ℕ) → Says (ltb b 256) (b < 256) = λ _. less in (all_of byte l).0 ((each byte d l).1 h)

-- the bytes of records, and of a queue
records-bytes : (tasks : List TaskControlBlock) → AllBytes (records_bytes tasks)
unfolding records_bytes flatten record_bytes Each
records-bytes [] = tt
records-bytes (t ∷ tasks) = each_append _ (record_bytes t) (records_bytes tasks) (written-bytes record_widths (record_numbers t)) (records-bytes tasks)

queue-bytes : (es : List ℕ) → length es ≤ 64 → ((place : ℕ) → place < length es → get_or es place 0 < 64) → AllBytes (queue_bytes es)
unfolding queue_bytes places Each
queue-bytes es few low =
    let zeros : List ℕ = replicate (64 - length es) 0 in
    let entries : AllBytes es = bytes_by_place es 0 (λ i h. omega (arith, low i h)) in
    let unused : AllBytes zeros = bytes_by_place zeros 0 (λ i _. omega (arith, get_d_zeros (64 - length es) i)) in
    (omega arith, each_append _ es zeros entries unused)

module _ (s : State) (a : Accepted s) where
  -- every holder is a slot or 255, every entry a slot
  pub holder_small : (core : ℕ) → holder s core < 256
  holder_small core =
      ⊎_elim (λ none. omega arith) (λ m. omega (arith, used_in_table s a.slots (holder s core) m.used)) ((accepted-invariant s a).held core)

  band_bytes : (band : QoSClass) → AllBytes (queue_bytes (queue s band))
  band_bytes band =
      queue-bytes (queue s band) (a.lengths band) (λ place h. ready_in_table s a.slots (get_or (queue s band) place 0) (a.entries band place h).ready)

  queues_bytes_lem : AllBytes (queues_bytes s.queues)
  unfolding queues_bytes Each
  queues_bytes_lem = each_flatten _ _ (band_bytes UserInteractive, (band_bytes RealTimeIO, (band_bytes Background, tt)))

  image_bytes : AllBytes (image_of s)
  unfolding image_of Each
  image_bytes =
      let holders : AllBytes s.holders = bytes_by_place s.holders none_byte (λ core _. holder_small core) in
      each_flatten _ (image_parts s) (records-bytes s.tasks, (queues_bytes_lem, (holders, (bytes_of-bytes 8 s.micros, tt))))

-- ---- the image of an accepted state is accepted

-- the slot bytes of a queue: its entries, and zeros behind them
slot_byte-is : (place : ℕ) (es : List ℕ) → slot_byte place (queue_bytes es) ≡ get_or es place 0
unfolding queue_bytes places
slot_byte-is place es = padded es place where
  padded : (l : List ℕ) (i : ℕ) → get_or (l ++ replicate (64 - length es) 0) i 0 ≡ get_or l i 0
  padded [] i = get_d_zeros (64 - length es) i
  padded (e ∷ l) zero = refl
  padded (e ∷ l) (suc i) = padded l i

module _ (s : State) (a : Accepted s) (fits : FitsImage s) where
  -- a number of a slot's record, as it stands in the image
  number_is : (slot : ℕ) → slot < 64 → (i : ℕ) →
      get_or (numbers_at 0 record_widths (record_at slot (image_of s))) i 0 ≡ get_or (record_numbers (task s slot)) i 0
  unfolding record_bytes
  number_is slot h i =
      let fit : FitsRecord (task s slot) =
      each_at FitsRecord s.tasks slot empty_record fits.records (omega (arith, a.slots)) in
      ap (λ (numbers : List ℕ). get_or numbers i 0)
      (ap (numbers_at 0 record_widths) (record_at_lem s a.slots slot h) ∙ numbers_at-written record_widths (record_numbers (task s slot)) fit)

  -- the length byte and the slot bytes of a band's queue, as they stand there
  length_is : (band : QoSClass) → length_byte (queue_at band (image_of s)) ≡ length (queue s band)
  unfolding queue_bytes
  length_is band = ap length_byte (queue_at_lem s a.slots a.lengths band)

  slot_is : (band : QoSClass) (place : ℕ) → slot_byte place (queue_at band (image_of s)) ≡ get_or (queue s band) place 0
  slot_is band place = ap (slot_byte place) (queue_at_lem s a.slots a.lengths band) ∙ slot_byte-is place (queue s band)

  -- an accepted state whose numbers fit has an accepted image
  pub image_accepted : AcceptedImage (image_of s)
  image_accepted =
      let read : state_at (image_of s) ≡ s = reads_back s a fits in
      let base : AcceptedBase (image_of s) = record {
        long = omega (arith, length_image_of s a);
        bytes = image_bytes s a;
        bands = λ slot h. omega (arith, number_is slot h 1, band_code-small (task s slot).qos);
        states = λ slot h. omega (arith, number_is slot h 2, state_code-small (task s slot).state);
        in_uses = λ slot h. omega (arith, number_is slot h 9, flag_number-small (task s slot).in_use);
        lengths = λ band. omega (arith, length_is band, a.lengths band);
        unused = λ band place past _. slot_is band place ∙ get_or-eq_default (queue s band) 0 (omega (arith, length_is band));
        state = subst Accepted (sym read) a;
      } in
      record { length_is = length_image_of s a; base = base }

  -- and reads as the same state
  pub has_image : HasImage s
  has_image = record { accepted = a; fits = fits; image_accepted = image_accepted; reads_as = reads_back s a fits }
