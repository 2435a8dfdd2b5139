-- Document 01, "Task record, queues, holders": "Every state reached from new or an accepted image is again accepted, and writing then reading the
-- image gives the same state". Calls whose numbers fit the fields that they are stored in, what is claimed of the states that such calls reach, and
-- answers whose numbers fit their fields.
use Rattle.std.specs.Prelude.{◌≡◌, ◌∷◌, ◌<◌, ◌^◌}
use Rattle.rules.specs.declared.answer.Answer.{Answer}
use Rattle.rules.specs.declared.call.Call.{Call}
use Rattle.rules.specs.declared.call.Call.TheVariants.{Create, Affinity, Terminate, Block, Wake, Enqueue, Schedule, Tick, Yield, Handoff, Plan, CanRunOnCore, TaskIndexForTid, Task, CurrentTaskOnCpu, SystemTicksUs, Holder}
use Rattle.rules.specs.Accepted.{Accepted}
use Rattle.rules.specs.Paper.{paper}
use Rattle.rules.specs.State.{State}
use Rattle.frames.specs.AcceptedImage.{AcceptedImage}
use Rattle.frames.specs.Answer.{value_widths}
use Rattle.frames.specs.Bytes.{Fit}
use Rattle.frames.specs.Image.{image_of, state_at, FitsImage}

-- "tid 4, [..] context 8, cr3 8, rsp0 8, mask 8": what a call gives to be stored fits its width. Nothing is asked of the others: of slots and cores
-- the rules keep only those below 64, and elapsed goes into sums that the rules bound.
abbrev pub FitsCall : Call → Type 0
FitsCall (Create tid band context cr3 rsp0) = (tid.0 < 256 ^ 4) × (context < 256 ^ 8) × (cr3 < 256 ^ 8) × (rsp0 < 256 ^ 8)
FitsCall (Affinity slot mask) = mask < 256 ^ 8
FitsCall (Terminate slot) = Unit
FitsCall (Block slot) = Unit
FitsCall (Wake slot) = Unit
FitsCall (Enqueue slot) = Unit
FitsCall (Schedule core) = Unit
FitsCall (Tick core elapsed) = Unit
FitsCall (Yield core) = Unit
FitsCall (Handoff core) = Unit
FitsCall (Plan core elapsed) = Unit
FitsCall (CanRunOnCore slot core) = Unit
FitsCall (TaskIndexForTid tid) = Unit
FitsCall (Task slot) = Unit
FitsCall (CurrentTaskOnCpu core) = Unit
FitsCall SystemTicksUs = Unit
FitsCall (Holder slot) = Unit

-- what is claimed of every state that is reached, and of every state that a valid scheduler has
pub record HasImage (s : State) : Type 0 where
  -- it "is again accepted"
  pub accepted : Accepted s
  -- its numbers fit the fields of an image
  pub fits : FitsImage s
  -- its image is accepted too
  pub image_accepted : AcceptedImage (image_of s)
  -- "writing then reading the image gives the same state"
  pub reads_as : state_at (image_of s) ≡ s

-- no number of an answer is too large for its field
abbrev pub FitsAnswer : Answer → Type 0
FitsAnswer a = Fit (1 ∷ 1 ∷ 1 ∷ value_widths a.value) (paper a)
