-- How the functions of src/accept.rt meet their contracts: what the code reads in an image's bytes is what the image's state has, and a law for each
-- way out: of slots, cores and queues, and of the whole image. Assumes nothing.
use denote.Enum.Bare.{sameb}
use mathlib.Core.Path.{◌≡◌, refl, sym, ap, ◌∙◌}
use mathlib.Core.Bool.{Bool, true, false, ◌&&◌, and_assoc, and_comm}
use mathlib.Core.Logic.Iff
use mathlib.Core.List.{List}
use Prim.Native.Nat.{ℕ, ◌+◌, ◌-◌, ◌≤◌, ◌<◌}
use native.Mathlib.Numerals.{one-add}
use native.Mathlib.Omega.{arith}
use borrow.Author.Tests.{le-ltb, le-leb, lt-leb, eq-eqb, ne_eqb}
use lib.Dec.{ltb, eqb}
use lib.ListN.{length, get_or, take, drop, length-drop, length-take}
use lib.Seq.{get_or-drop, get_or-take}
use Rattle.std.specs.Array.{IsWholeChunk}
use Rattle.std.specs.Borrow.{Bor}
use Rattle.std.proofs.lemmas.List.{get_or_default}
use Rattle.std.specs.Prelude.{◌≢◌, Option, None, Some, MatchOption}
use Rattle.records.specs.declared.band.QoSClass.{QoSClass}
use Rattle.records.specs.declared.band.QoSClass.TheVariants.{UserInteractive, RealTimeIO, Background}
use Rattle.records.specs.declared.state.ThreadState.TheVariants.{Ready}
use Rattle.records.specs.declared.task.TaskControlBlock.{TaskControlBlock}
use Rattle.records.specs.contracts.band.QoSClass.{the_type}
use Rattle.records.specs.Band.{band_code}
use Rattle.records.specs.Lists.{every, every_below}
use Rattle.records.specs.ThreadState.{is_state}
use Rattle.rules.specs.Accepted.{record_fits, ready_of, once_if_ready, stands_once, may_hold, holder_fits}
use Rattle.rules.specs.State.{none_byte, band_order, task}
use Rattle.rules.proofs.Says.{Says, less, at_most, both, each, below, by_place, bands}
use Rattle.frames.specs.Image.{image_length, base_length, record_in, record_at, queue_at, length_byte, slot_byte, state_at}
use Rattle.frames.specs.AcceptedImage.{codes_fit, slot_fits, place_fits, band_fits, core_fits, accepts_base, accepts_image}
use Rattle.frames.specs.Private.{all_zero, LengthsFit}
use Rattle.frames.proofs.Images.{task-read, task-past}
use Rattle.std.specs.Bool.{Decides}
use Rattle.std.proofs.lemmas.Bool.Decides.{Decides-at, same_from_decides}

-- ---- a slot

module _ (image : List ℕ) (slot : ℕ) {bytes : List ℕ} (h : slot < 64) (at : bytes ≡ record_at slot image) where
  -- the record that was read for a slot
  pub record_read : record_in bytes ≡ task (state_at image) slot
  record_read = ap record_in at ∙ sym (task-read image slot h)

  pub slot_fits_lem : {r : Bool} → r ≡ codes_fit bytes && record_fits (record_in bytes) → r ≡ slot_fits image slot
  unfolding slot_fits
  slot_fits_lem e = e ∙ rw (at, task-read image slot h)

  pub once_read : (count : ℕ) {r : Bool} → r ≡ once_if_ready (record_in bytes) count → r ≡ once_if_ready (task (state_at image) slot) count
  once_read count e = e ∙ ap (λ (t : TaskControlBlock). once_if_ready t count) record_read

  -- whether it is Ready
  pub ready_read : {r : Bool} → r ≡ is_state (record_in bytes).state Ready → is_state (task (state_at image) slot).state Ready ≡ r
  ready_read is = ap (λ (t : TaskControlBlock). is_state t.state Ready) (sym record_read) ∙ sym is

-- two bands are equal where their codes are
same_band : (a b : QoSClass) → sameb the_type a b ≡ eqb (band_code a) (band_code b)
same_band UserInteractive UserInteractive = refl
same_band UserInteractive RealTimeIO = refl
same_band UserInteractive Background = refl
same_band RealTimeIO UserInteractive = refl
same_band RealTimeIO RealTimeIO = refl
same_band RealTimeIO Background = refl
same_band Background UserInteractive = refl
same_band Background RealTimeIO = refl
same_band Background Background = refl

-- a slot whose record is Ready or not, by r
module _ (t : TaskControlBlock) {r : Bool} (is : is_state t.state Ready ≡ r) where
  pub waiting_not : (band : QoSClass) → r ≡ false → r ≡ ready_of band t
  waiting_not band e = e ∙ sym (rw (is ∙ e))

  pub waiting_of : (band : QoSClass) {q : QoSClass} {b : Bool} → r ≡ true → q ≡ t.qos → b ≡ sameb the_type q band → b ≡ ready_of band t
  waiting_of band {q} e own same = same ∙ same_band q band ∙ sym (rw (is ∙ e, own))

pub waiting-past : (image : List ℕ) (band : QoSClass) (slot : ℕ) → 64 ≤ slot → false ≡ ready_of band (task (state_at image) slot)
waiting-past image band slot h = sym (rw (task-past image slot h))

-- ---- a core

module _ (image : List ℕ) {holder slot : ℕ} (other : holder ≡ none_byte → ⊥) (is : slot ≡ holder) where
  holder_slot_is : holder_fits (state_at image) holder ≡ may_hold (task (state_at image) slot)
  holder_slot_is = rw (ne_eqb holder none_byte other, is) refl

  pub holder_past : 64 ≤ slot → ltb slot 64 ≡ holder_fits (state_at image) holder
  holder_past past = le-ltb slot 64 past ∙ sym (holder_slot_is ∙ rw (task-past image slot past))

  pub holder_slot : {bytes : List ℕ} {r : Bool} → slot < 64 → bytes ≡ record_at slot image → r ≡ may_hold (record_in bytes) → r ≡ holder_fits (state_at image) holder
  holder_slot low at e = e ∙ ap may_hold (record_read image slot low at) ∙ sym holder_slot_is

-- and all of them, each asked in turn
pub cores_tested : (image : List ℕ) {holders : List ℕ} → holders ≡ (state_at image).holders → length holders ≡ 64 → (core : ℕ) → core < 64 →
    holder_fits (state_at image) (get_or holders core 0) ≡ core_fits image core
unfolding core_fits
cores_tested image {holders} is long core h =
    ap (holder_fits (state_at image)) (get_or_default holders core 0 none_byte (omega (arith, h, long)) ∙ ap (λ (l : List ℕ). get_or l core none_byte) is)

-- ---- a queue

module _ (image : List ℕ) (band : QoSClass) {len : ℕ} (size : len ≡ length_byte (queue_at band image)) where
  pub band_long : 64 < len → false ≡ band_fits image band
  unfolding band_fits
  band_long h = sym (rw (lt-leb (length_byte (queue_at band image)) 64 (omega (arith, h, size))))

  -- its entries wait, and the places behind them are 0
  pub band_tested : {places : List ℕ} {entries rest : Bool} → len ≤ 64 → length places ≡ 64 → places ≡ drop 1 (queue_at band image) →
      Decides entries ((k : ℕ) → k < length (take len places) → ready_of band (task (state_at image) (get_or (take len places) k 0)) ≡ true) →
      rest ≡ all_zero (drop len places) → entries && rest ≡ band_fits image band
  unfolding band_fits place_fits
  band_tested {places} {entries} {rest} short long behind entries-are rest-are =
      let q = queue_at band image in
      let own : (k : ℕ) → get_or places k 0 ≡ slot_byte k q =
      λ k. ap (λ (l : List ℕ). get_or l k 0) behind ∙ get_or-drop 1 q k 0 ∙ ap (λ (n : ℕ). get_or q n 0) (one-add k) in
      let front : (k : ℕ) → k < len → get_or (take len places) k 0 ≡ slot_byte k q = λ k low. get_or-take len places k 0 low ∙ own k in
      let back : (k i : ℕ) → len + i ≡ k → get_or (drop len places) i 0 ≡ slot_byte k q = λ k i is. get_or-drop len places i 0 ∙ rw is (own k) in
      let fits : ℕ → Type 0 =
      λ k. (k < length_byte q → ready_of band (task (state_at image) (slot_byte k q)) ≡ true) × (length_byte q ≤ k → eqb (slot_byte k q) 0 ≡ true) in
      let zeros = Decides-at rest _ rest-are (each (λ b. Iff.rfl) 0 (drop len places)) in
      same_from_decides _ _
      (Iff.trans (both entries-are zeros) (
        λ (ready, unused). (
          omega (arith, short, size),
          λ k h. (
            λ low. rw (front k (omega (arith, low, size))) at (ready k (omega (arith, low, size, short, long, length-take len places))),
            λ past. rw (back k (k - len) (omega (arith, past, size))) at (unused (k - len) (omega (arith, past, size, h, long, length-drop len places))),
          ),
        ),
        λ (_, each-is). (
          λ k h. rw (front k (omega (arith, h, length-take len places)))
              ((each-is k (omega (arith, h, short, length-take len places))).0 (omega (arith, h, size, length-take len places))),
          λ i h. rw (back (len + i) i refl) ((each-is (len + i) (omega (arith, h, long, length-drop len places))).1 (omega (arith, size))),
        ),
      ))
      (both at_most (below {P = fits} (λ k. by_place Iff.rfl Iff.rfl)))

-- ---- the whole image

module _ (image : List ℕ) where
  abbrev pub queues : Bool
  queues = every (band_fits image) band_order

  abbrev pub slots : Bool
  slots = every_below 64 (slot_fits image) && every_below 64 (stands_once (state_at image))

  abbrev pub cores : Bool
  cores = every_below 64 (core_fits image)

  band_says : (band : QoSClass) → Says (band_fits image band) ((length_byte (queue_at band image) ≤ 64) × (every_below 64 (place_fits image band) ≡ true))
  unfolding band_fits
  band_says band = both at_most Iff.rfl

  pub lengths_fit : {r : Bool} → r ≡ queues → r ≡ true → LengthsFit image
  lengths_fit e h band = ((bands band_says).0 (sym e ∙ h) band).0

  accepts_length : (length image ≡ image_length → ⊥) → false ≡ accepts_image image
  unfolding accepts_image
  accepts_length ne = sym (rw (ne_eqb (length image) image_length ne))

  -- of 3,275 bytes the rest decides
  module _ (whole : length image ≡ image_length) (small : (i : ℕ) → get_or image i 0 < 256) where
    bytes_are : every (λ b. ltb b 256) image ≡ true
    bytes_are = (each (λ b. less {a = b} {b = 256}) 0 image).1 (λ i _. small i)

    -- in the order in which the code asks
    pub accepts_is : queues && slots && cores ≡ accepts_image image
    unfolding accepts_image accepts_base
    accepts_is =
        let fit = every_below 64 (slot_fits image) in
        let long : base_length ≤ length image = omega (arith, whole) in
        sym
        (rw (eq-eqb (length image) image_length whole, le-leb base_length (length image) long, bytes_are)
        (rw (and_comm fit queues, and_assoc queues fit (every_below 64 (stands_once (state_at image))))))

-- of any bytes: whether they are as many, and what is answered of those
pub accepts_whole : (image : List ℕ) (o : Option (Bor (List ℕ))) {r : Bool} → MatchOption o (length image ≢ image_length) (λ y. IsWholeChunk image y.now image_length) →
    MatchOption o (r ≡ false) (λ y. r ≡ accepts_image y.now) → r ≡ accepts_image image
accepts_whole image None other e = e ∙ accepts_length image other
accepts_whole image (Some y) same e = e ∙ ap accepts_image same.same
