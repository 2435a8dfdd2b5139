-- What the private functions promise, and what their proofs cite of it. Nobody above this crate has to read it.
use Rattle.std.specs.Prelude.{◌≡◌, ◌<◌, ℕ, Bool, true, false, cond, List, length, get_or, Option, None, Some, MatchOption}
use Rattle.records.specs.declared.band.QoSClass.{QoSClass}
use Rattle.records.specs.declared.error.SchedError.{SchedError}
use Rattle.records.specs.declared.ids.Slot.{Slot}
use Rattle.records.specs.declared.task.TaskControlBlock.{TaskControlBlock}
use Rattle.queue.specs.declared.BandQueue.{BandQueue}
use Rattle.queue.specs.Entries.{without}
use Rattle.scheduler.specs.declared.scheduler.QoSScheduler.{QoSScheduler}
use Rattle.scheduler.specs.declared.scheduler.Reply.{Reply}
use Rattle.rules.specs.declared.answer.ContextSwitchTarget.{ContextSwitchTarget}
use Rattle.rules.specs.declared.answer.ContextSwitchTarget.TheVariants.{Task, Idle}
use Rattle.rules.specs.declared.answer.Value.{Value}
use Rattle.rules.specs.declared.answer.Value.TheVariants as value
use Rattle.scheduler.specs.declared.picking.Form.{Form}
use Rattle.scheduler.specs.declared.picking.Form.TheVariants as form
use Rattle.rules.specs.Outcome.{Outcome, Chosen, answered, refusal}
use Rattle.rules.specs.Picking.{place_for, waits_in, answer_slot}
use Rattle.rules.specs.State.{State, task, queue, each_queue}
use Rattle.rules.specs.Ticking.{plan_to, answer_plan}
use Rattle.rules.specs.Waking.{missing}
use Rattle.scheduler.specs.Stored.{queues_of}
use Rattle.scheduler.specs.Scheduler.{abs}

-- done: this value, and the scheduler as it is
abbrev pub told_by : QoSScheduler → Value → Reply
told_by s v = record { answer = answered None v; state = s }

-- refused: nothing is changed
abbrev pub refused_by : QoSScheduler → SchedError → Reply
refused_by s e = record { answer = refusal e; state = s }

-- the whole answer and the whole end state as in this outcome of the rules
pub record Gives (o : Outcome) (r : Reply) : Type 0 where
  pub answer_is : r.answer ≡ o.answer
  pub state_is : abs r.state ≡ o.state

-- the record of a slot in use
abbrev pub in_use_at : ℕ → State → Option TaskControlBlock
in_use_at slot s = cond (missing s slot) None (Some (task s slot))

-- three queues, with a slot out of each and the rest in their order
pub record OutOf (slot : Slot) (before after : List BandQueue) : Type 0 where
  pub bands : length after ≡ 3
  pub queues_are : queues_of after ≡ each_queue (without slot.0) (queues_of before)

-- the place of the band's first entry that may use the core, and that entry, which is a slot of the table
pub record IsFirst (s : State) (core : ℕ) (band : QoSClass) (found : ℕ × Slot) : Type 0 where
  pub place_is : place_for s core band ≡ found.0
  pub in_queue : found.0 < length (queue s band)
  pub entry_is : get_or (queue s band) found.0 0 ≡ found.1.0
  pub in_table : found.1.0 < 64

abbrev pub FirstPermitted : State → ℕ → QoSClass → Option (ℕ × Slot) → Type 0
FirstPermitted s core band o = MatchOption o (waits_in s core band ≡ false) (IsFirst s core band)

-- who is to run, told as the slot, or as a plan from the previous holder
abbrev pub answer_in : Form → Chosen → Outcome
answer_in form.Slot c = answer_slot c
answer_in (form.Plan previous) c = answer_plan previous c

-- a plan where one is asked for
abbrev pub form_of : Bool → Option Slot → Form
form_of true previous = form.Plan previous
form_of false previous = form.Slot

-- the slot of who is to run
abbrev pub slot_of : ContextSwitchTarget → Option Slot
slot_of Idle = None
slot_of (Task n cr3) = Some n

-- the same as a value, where the target is known
abbrev pub who_runs : Form → ContextSwitchTarget → Value
who_runs form.Slot target = value.Slot (slot_of target)
who_runs (form.Plan previous) target = value.Plan (plan_to previous (slot_of target) target)
