-- Document 01, "Call frames": an answer's number and values as the paper lists them, status, pick slot, pick band, then the value. How many
-- bytes each number takes is the frames' matter.
use Rattle.std.specs.Prelude.{Bool, cond, List, [], ◌∷◌, ◌++◌, ℕ, Option, None, Some, Result, Ok, Err}
use Rattle.records.specs.declared.error.SchedError.{SchedError}
use Rattle.rules.specs.declared.answer.Pick.{Pick}
use Rattle.rules.specs.declared.answer.ContextSwitchPlan.{ContextSwitchPlan}
use Rattle.records.specs.declared.ids.Slot.{Slot}
use Rattle.records.specs.declared.task.TaskControlBlock.{TaskControlBlock}
use Rattle.records.specs.Band.{band_code}
use Rattle.records.specs.Error.{error_code}
use Rattle.records.specs.ThreadState.{state_code}
use Rattle.rules.specs.declared.answer.Answer.{Answer}
use Rattle.rules.specs.declared.answer.ContextSwitchTarget.{ContextSwitchTarget}
use Rattle.rules.specs.declared.answer.ContextSwitchTarget.TheVariants as target
use Rattle.rules.specs.declared.answer.Value.{Value}
use Rattle.rules.specs.declared.answer.Value.TheVariants as value
use Rattle.rules.specs.State.{none_byte}

-- "status (0 or the refusal)"
abbrev pub status_number : Result Unit SchedError → ℕ
status_number (Ok _) = 0
status_number (Err e) = error_code e

-- "pick slot and pick band (ff ff for none)"
abbrev pub pick_numbers : Option Pick → List ℕ
pick_numbers None = none_byte ∷ none_byte ∷ []
pick_numbers (Some p) = p.slot.0 ∷ band_code p.band ∷ []

-- "a slot or core byte, ff for none"
abbrev pub slot_number : Option Slot → ℕ
slot_number None = none_byte
slot_number (Some s) = s.0

abbrev pub core_number : Option ℕ → ℕ
core_number None = none_byte
core_number (Some c) = c

-- "00 or 01"; "in use 1 (0 or 1)"
abbrev pub flag_number : Bool → ℕ
flag_number b = cond b 1 0

-- "target byte (ff idle), cr3 8 (0 if idle)"
abbrev pub target_numbers : ContextSwitchTarget → List ℕ
target_numbers target.Idle = none_byte ∷ 0 ∷ []
target_numbers (target.Task slot cr3) = slot.0 ∷ cr3 ∷ []

-- "for plans 00, or 01, previous byte (ff none), target byte (ff idle), cr3 8 (0 if idle)"
abbrev pub plan_numbers : Option ContextSwitchPlan → List ℕ
plan_numbers None = 0 ∷ []
plan_numbers (Some p) = 1 ∷ slot_number p.prev_task_idx ∷ target_numbers p.target

-- "tid 4, band 1 [..], state 1 [..], context 8, cr3 8, rsp0 8, mask 8 [..], budget 4, consumed 4, in use 1"
abbrev pub record_numbers : TaskControlBlock → List ℕ
record_numbers t =
    t.tid.0 ∷ band_code t.qos ∷ state_code t.state ∷ t.context_handle ∷ t.cr3 ∷ t.rsp0 ∷
    t.cpu_affinity ∷ t.slice_budget_us ∷ t.consumed_slice_us ∷ flag_number t.in_use ∷ []

-- "00, or 01 and the record"
abbrev pub task_numbers : Option TaskControlBlock → List ℕ
task_numbers None = 0 ∷ []
task_numbers (Some t) = 1 ∷ record_numbers t

-- "then the value"
abbrev pub value_numbers : Value → List ℕ
value_numbers value.Nothing = []
value_numbers (value.Slot s) = slot_number s ∷ []
value_numbers (value.Core c) = core_number c ∷ []
value_numbers (value.Plan p) = plan_numbers p
value_numbers (value.Flag b) = flag_number b ∷ []
value_numbers (value.Task t) = task_numbers t
value_numbers (value.Micros n) = n ∷ []

unfoldable pub paper : Answer → List ℕ
paper a = status_number a.status ∷ (pick_numbers a.pick ++ value_numbers a.value)
