-- Document 01, "Task record, queues, holders": which states are accepted, as its list of conditions and as a test that computes. Codes and
-- unused bytes are a matter of the image: a state has bands and states, and queues without unused places.
use Rattle.std.specs.Prelude.{◌≡◌, Bool, true, cond, not, ◌&&◌, ◌||◌, ◌⊎◌, ℕ, ◌+◌, ◌≤◌, ◌<◌, ltb, leb, eqb, length, get_or}
use Rattle.std.specs.Bool.{beq}
use Rattle.records.specs.declared.band.QoSClass.{QoSClass}
use Rattle.records.specs.declared.band.QoSClass.TheVariants.{UserInteractive, RealTimeIO, Background}
use Rattle.records.specs.declared.state.ThreadState.TheVariants.{Ready, Terminated}
use Rattle.records.specs.declared.task.TaskControlBlock.{TaskControlBlock}
use Rattle.records.specs.Band.{band_code, slice}
use Rattle.records.specs.Lists.{every, every_below, count}
use Rattle.records.specs.ThreadState.{is_state}
use Rattle.rules.specs.State.{State, none_byte, band_order, task, queue, holder}

-- how often a slot stands in the queues
abbrev pub standings : State → ℕ → ℕ
standings s slot = count slot (queue s UserInteractive) + (count slot (queue s RealTimeIO) + count slot (queue s Background))

-- a Ready slot of that band, as a test
abbrev pub ready_of : QoSClass → TaskControlBlock → Bool
ready_of band t = is_state t.state Ready && eqb (band_code t.qos) (band_code band)

-- how often a slot stands in a band's queue, by its record: once where it is Ready and of that band, else not at all
abbrev pub due : QoSClass → TaskControlBlock → ℕ
due band t = cond (ready_of band t) 1 0

-- ---- the conditions

-- "a Ready slot of that band"
pub record ReadyOf (band : QoSClass) (t : TaskControlBlock) : Type 0 where
  pub ready : t.state ≡ Ready
  pub in_band : t.qos ≡ band

-- "a slot in use whose budget is its slice"
pub record MayHold (t : TaskControlBlock) : Type 0 where
  pub used : t.in_use ≡ true
  pub budget_is : t.slice_budget_us ≡ slice t.qos

pub record Accepted (s : State) : Type 0 where
  -- "The state is 64 records (slots 0 to 63), [..] a holder for each of 64 cores"
  pub slots : length s.tasks ≡ 64
  pub cores : length s.holders ≡ 64
  -- "in use is 0 exactly for Terminated"
  pub in_use : (slot : ℕ) → slot < 64 → (task s slot).in_use ≡ not (is_state (task s slot).state Terminated)
  -- "no mask is 0"
  pub masks : (slot : ℕ) → slot < 64 → (task s slot).cpu_affinity ≡ 0 → ⊥
  -- "lengths are at most 64"
  pub lengths : (band : QoSClass) → length (queue s band) ≤ 64
  -- "every queue entry is a Ready slot of that band"
  pub entries : (band : QoSClass) (place : ℕ) → place < length (queue s band) → ReadyOf band (task s (get_or (queue s band) place 0))
  -- "every Ready slot stands in the queues once"
  pub once : (slot : ℕ) → slot < 64 → (task s slot).state ≡ Ready → standings s slot ≡ 1
  -- "every holder is 255 or a slot in use whose budget is its slice"
  pub holders : (core : ℕ) → core < 64 → (holder s core ≡ none_byte) ⊎ MayHold (task s (holder s core))
  -- "every budget is 0 or its slice"
  pub budgets : (slot : ℕ) → slot < 64 → ((task s slot).slice_budget_us ≡ 0) ⊎ ((task s slot).slice_budget_us ≡ slice (task s slot).qos)
  -- "every consumed is below its slice"
  pub consumed : (slot : ℕ) → slot < 64 → (task s slot).consumed_slice_us < slice (task s slot).qos

-- ---- the test

-- what is asked of a record alone
abbrev pub record_fits : TaskControlBlock → Bool
record_fits t =
    beq t.in_use (not (is_state t.state Terminated)) &&
    not (eqb t.cpu_affinity 0) &&
    (eqb t.slice_budget_us 0 || eqb t.slice_budget_us (slice t.qos)) &&
    ltb t.consumed_slice_us (slice t.qos)

abbrev pub queue_fits : State → QoSClass → Bool
queue_fits s band = leb (length (queue s band)) 64 && every (λ slot. ready_of band (task s slot)) (queue s band)

-- a task whose slot stands in the queues n times
abbrev pub once_if_ready : TaskControlBlock → ℕ → Bool
once_if_ready t n = not (is_state t.state Ready) || eqb n 1

abbrev pub stands_once : State → ℕ → Bool
stands_once s slot = once_if_ready (task s slot) (standings s slot)

abbrev pub may_hold : TaskControlBlock → Bool
may_hold t = t.in_use && eqb t.slice_budget_us (slice t.qos)

abbrev pub holder_fits : State → ℕ → Bool
holder_fits s h = eqb h none_byte || may_hold (task s h)

unfoldable pub accepts : State → Bool
accepts s =
    eqb (length s.tasks) 64 &&
    eqb (length s.holders) 64 &&
    every_below 64 (λ slot. record_fits (task s slot)) &&
    every (queue_fits s) band_order &&
    every_below 64 (stands_once s) &&
    every_below 64 (λ core. holder_fits s (holder s core))
