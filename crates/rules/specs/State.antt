-- Document 01, "Task record, queues, holders": the scheduler's state, and the new one.
use Rattle.std.specs.Prelude.{cond, List, [], ◌∷◌, ℕ, eqb, get_or, set, replicate, Option, None, Some}
use Rattle.records.specs.declared.ids.Slot.{Slot}
use Rattle.records.specs.declared.band.QoSClass.{QoSClass}
use Rattle.records.specs.declared.band.QoSClass.TheVariants.{UserInteractive, RealTimeIO, Background}
use Rattle.records.specs.declared.task.TaskControlBlock.{TaskControlBlock}
use Rattle.records.specs.Task.{empty_record}

-- "three queues, one a band [..] A queue is its entries from front to tail"
pub record Queues : Type 0 where
  pub interactive : List ℕ
  pub real_time : List ℕ
  pub background : List ℕ

-- "The state is 64 records (slots 0 to 63), three queues [..], a holder for each of 64 cores (a slot, or 255 for none), and 8 bytes of
-- system microseconds."
pub record State : Type 0 where
  pub tasks : List TaskControlBlock
  pub queues : Queues
  pub holders : List ℕ
  pub micros : ℕ

-- the bands in the order in which P goes through them
abbrev pub band_order : List QoSClass
band_order = UserInteractive ∷ RealTimeIO ∷ Background ∷ []

-- "255 for none", in a holder and, as "ff for none", in an answer
abbrev pub none_byte : ℕ
none_byte = 255

-- "New: all records empty, queues empty, no holders, 0."
abbrev pub new_state : State
new_state = record {
  tasks = replicate 64 empty_record;
  queues = record { interactive = []; real_time = []; background = [] };
  holders = replicate 64 none_byte;
  micros = 0;
}

-- ---- reading it

-- a slot's record; a slot of 64 and above reads as the empty record, which is not in use
abbrev pub task : State → ℕ → TaskControlBlock
task s slot = get_or s.tasks slot empty_record

-- a band's queue
abbrev pub of_band : Queues → QoSClass → List ℕ
of_band q UserInteractive = q.interactive
of_band q RealTimeIO = q.real_time
of_band q Background = q.background

abbrev pub queue : State → QoSClass → List ℕ
queue s band = of_band s.queues band

-- a core's holder; a core of 64 and above has none
abbrev pub holder : State → ℕ → ℕ
holder s core = get_or s.holders core none_byte

-- the same, as a slot that may be missing
abbrev pub holder_in : ℕ → Option Slot
holder_in number = cond (eqb number none_byte) None (Some (record { 0 = number }))

abbrev pub holder_of : State → ℕ → Option Slot
holder_of s core = holder_in (holder s core)

-- ---- the state with one part changed, all else as it was

abbrev pub with_task : State → ℕ → TaskControlBlock → State
with_task s slot t = record { tasks = set s.tasks slot t; queues = s.queues; holders = s.holders; micros = s.micros }

abbrev pub with_queues : State → Queues → State
with_queues s q = record { tasks = s.tasks; queues = q; holders = s.holders; micros = s.micros }

abbrev pub with_band : Queues → QoSClass → List ℕ → Queues
with_band q UserInteractive es = record { interactive = es; real_time = q.real_time; background = q.background }
with_band q RealTimeIO es = record { interactive = q.interactive; real_time = es; background = q.background }
with_band q Background es = record { interactive = q.interactive; real_time = q.real_time; background = es }

abbrev pub with_queue : State → QoSClass → List ℕ → State
with_queue s band es = with_queues s (with_band s.queues band es)

-- the same done to each queue
abbrev pub each_queue : (List ℕ → List ℕ) → Queues → Queues
each_queue f q = record { interactive = f q.interactive; real_time = f q.real_time; background = f q.background }

abbrev pub with_holders : State → List ℕ → State
with_holders s hs = record { tasks = s.tasks; queues = s.queues; holders = hs; micros = s.micros }

abbrev pub with_holder : State → ℕ → ℕ → State
with_holder s core slot = with_holders s (set s.holders core slot)

abbrev pub with_micros : State → ℕ → State
with_micros s n = record { tasks = s.tasks; queues = s.queues; holders = s.holders; micros = n }
