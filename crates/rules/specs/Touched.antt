-- Which records a call can change: that of the slot that it names or that its core holds, and that of the slot that it answers with. A writer
-- of the state after a call need write no other.
use Rattle.std.specs.Prelude.{◌≡◌, ℕ, Option, None, Some}
use Rattle.rules.specs.declared.answer.Pick.{Pick}
use Rattle.rules.specs.declared.answer.Answer.{Answer}
use Rattle.rules.specs.declared.answer.Value.{Value}
use Rattle.rules.specs.declared.answer.Value.TheVariants as value
use Rattle.rules.specs.declared.call.Call.{Call}
use Rattle.rules.specs.declared.call.Call.TheVariants.{Create, Affinity, Terminate, Block, Wake, Enqueue, Schedule, Tick, Yield, Handoff, Plan, CanRunOnCore, TaskIndexForTid, Task, CurrentTaskOnCpu, SystemTicksUs, Holder}
use Rattle.rules.specs.Paper.{slot_number}
use Rattle.rules.specs.State.{State, none_byte, task, holder}

-- the slot that a call on a slot names, or that the core of a tick, yield, handoff or plan holds; 255 for every other call
abbrev pub named_slot : Call → State → ℕ
named_slot (Create tid band context cr3 rsp0) s = none_byte
named_slot (Affinity slot mask) s = slot.0
named_slot (Terminate slot) s = slot.0
named_slot (Block slot) s = slot.0
named_slot (Wake slot) s = slot.0
named_slot (Enqueue slot) s = slot.0
named_slot (Schedule core) s = none_byte
named_slot (Tick core elapsed) s = holder s core
named_slot (Yield core) s = holder s core
named_slot (Handoff core) s = holder s core
named_slot (Plan core elapsed) s = holder s core
named_slot (CanRunOnCore slot core) s = none_byte
named_slot (TaskIndexForTid tid) s = none_byte
named_slot (Task slot) s = none_byte
named_slot (CurrentTaskOnCpu core) s = none_byte
named_slot SystemTicksUs s = none_byte
named_slot (Holder slot) s = none_byte

-- a value that is a slot; 255 for every other value
abbrev pub value_slot : Value → ℕ
value_slot (value.Slot s) = slot_number s
value_slot value.Nothing = none_byte
value_slot (value.Core c) = none_byte
value_slot (value.Plan p) = none_byte
value_slot (value.Flag b) = none_byte
value_slot (value.Task t) = none_byte
value_slot (value.Micros n) = none_byte

-- the slot that was picked, or else this one
abbrev pub picked_or : Option Pick → ℕ → ℕ
picked_or (Some p) slot = p.slot.0
picked_or None slot = slot

-- the slot that an answer tells of: its pick, or else its value
abbrev pub answered_slot : Answer → ℕ
answered_slot a = picked_or a.pick (value_slot a.value)

-- every record but those of two slots is as it was
abbrev pub SameBut : ℕ → ℕ → State → State → Type 0
SameBut first second s t = (slot : ℕ) → (slot ≡ first → ⊥) → (slot ≡ second → ⊥) → task t slot ≡ task s slot
