-- Document 01, "Task record, queues, holders": "It is accepted exactly when [..]". The conditions one by one, and the test that computes. Codes,
-- lengths and unused bytes are asked of the bytes themselves, since a state that is read has lost them; all else of the state that they stand for
-- (Accepted, in rules), in which a number of 64 and above is no slot.
use Rattle.std.specs.Prelude.{◌≡◌, Bool, cond, ◌&&◌, List, ℕ, ◌≤◌, ◌<◌, ltb, leb, eqb, length, get_or}
use Rattle.records.specs.declared.band.QoSClass.{QoSClass}
use Rattle.records.specs.Lists.{every, every_below}
use Rattle.rules.specs.Accepted.{Accepted, record_fits, ready_of, stands_once, holder_fits}
use Rattle.rules.specs.State.{band_order, task, holder}
use Rattle.frames.specs.Answer.{record_widths}
use Rattle.frames.specs.Bytes.{AllBytes, numbers_at}
use Rattle.frames.specs.Image.{image_length, base_length, record_at, queue_at, length_byte, slot_byte, state_at}

-- the codes of a record's 47 bytes
abbrev pub band_byte : List ℕ → ℕ
band_byte bytes = get_or (numbers_at 0 record_widths bytes) 1 0

abbrev pub state_byte : List ℕ → ℕ
state_byte bytes = get_or (numbers_at 0 record_widths bytes) 2 0

abbrev pub in_use_byte : List ℕ → ℕ
in_use_byte bytes = get_or (numbers_at 0 record_widths bytes) 9 0

-- ---- the conditions

-- Of the four parts, "64 records (3,008), three queues [..] (195), holders (64), system microseconds (8)": they are there, and are as document 01 asks.
-- Of what stands behind them only that it is bytes.
pub record AcceptedBase (image : List ℕ) : Type 0 where
  pub long : base_length ≤ length image
  pub bytes : AllBytes image
  -- "band, state and in-use codes are as above"
  pub bands : (slot : ℕ) → slot < 64 → band_byte (record_at slot image) < 3
  pub states : (slot : ℕ) → slot < 64 → state_byte (record_at slot image) < 4
  pub in_uses : (slot : ℕ) → slot < 64 → in_use_byte (record_at slot image) < 2
  -- "lengths are at most 64"
  pub lengths : (band : QoSClass) → length_byte (queue_at band image) ≤ 64
  -- "and unused queue bytes 0"
  pub unused : (band : QoSClass) (place : ℕ) → length_byte (queue_at band image) ≤ place → place < 64 → slot_byte place (queue_at band image) ≡ 0
  -- these are fields of Accepted: "in use is 0 exactly for Terminated; no mask is 0; [..] every queue entry is a Ready slot of that band; every Ready
  -- slot stands in the queues once; every holder is 255 or a slot in use whose budget is its slice; every budget is 0 or its slice; every consumed is
  -- below its slice". An entry there is a slot byte before the length (`entries_are`, `entry_is` in proofs/AcceptedImages).
  pub state : Accepted (state_at image)

pub record AcceptedImage (image : List ℕ) : Type 0 where
  -- "The image (added) is 3,275 bytes"
  pub length_is : length image ≡ image_length
  pub base : AcceptedBase image

-- ---- the test

-- what is asked of a record's bytes alone
abbrev pub codes_fit : List ℕ → Bool
codes_fit bytes = ltb (band_byte bytes) 3 && ltb (state_byte bytes) 4 && ltb (in_use_byte bytes) 2

unfoldable pub slot_fits : List ℕ → ℕ → Bool
slot_fits image slot = codes_fit (record_at slot image) && record_fits (task (state_at image) slot)

-- a place of a queue: an entry, or unused
unfoldable pub place_fits : List ℕ → QoSClass → ℕ → Bool
place_fits image band place =
    cond (ltb place (length_byte (queue_at band image)))
    (ready_of band (task (state_at image) (slot_byte place (queue_at band image))))
    (eqb (slot_byte place (queue_at band image)) 0)

unfoldable pub band_fits : List ℕ → QoSClass → Bool
band_fits image band = leb (length_byte (queue_at band image)) 64 && every_below 64 (place_fits image band)

unfoldable pub core_fits : List ℕ → ℕ → Bool
core_fits image core = holder_fits (state_at image) (holder (state_at image) core)

unfoldable pub accepts_base : List ℕ → Bool
accepts_base image =
    leb base_length (length image) &&
    every (λ b. ltb b 256) image &&
    every_below 64 (slot_fits image) &&
    every (band_fits image) band_order &&
    every_below 64 (stands_once (state_at image)) &&
    every_below 64 (core_fits image)

unfoldable pub accepts_image : List ℕ → Bool
accepts_image image = eqb (length image) image_length && accepts_base image
