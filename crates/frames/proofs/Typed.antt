-- Where it comes from that a state's numbers fit the fields of an image: from the types of the scheduler's fields. What a function is told of a
-- parameter, or of what a call gave back, is `Is`: that the parameter is a value of its type. So every scheduler's state has an image.
-- Assumes nothing.
use mathlib.Core.List.{List, [], ◌∷◌}
use native.Mathlib.Omega.{arith}
use mir.Val.{Val}
use denote.Array.{each}
use denote.Laws.{Is}
use denote.Shadow.{shadow}
use denote.Struct.Declared.{row}
use Rattle.records.specs.declared.task.TaskControlBlock.{TaskControlBlock}
use Rattle.records.specs.contracts.task.TaskControlBlock as block
use Rattle.records.proofs.Bands.{band_code-small}
use Rattle.records.proofs.States.{state_code-small}
use Rattle.scheduler.specs.declared.scheduler.QoSScheduler.{QoSScheduler}
use Rattle.records.specs.Lists.{Each}
use Rattle.rules.proofs.Accepts.{accepts_sound}
use Rattle.scheduler.specs.Scheduler.{abs}
use Rattle.scheduler.specs.contracts.scheduler.QoSScheduler as scheduler
use Rattle.frames.specs.Bytes.{Fit}
use Rattle.frames.specs.Image.{FitsImage, FitsRecord}
use Rattle.frames.specs.Fits.{HasImage}
use Rattle.frames.proofs.AcceptedImages.{has_image}
use Rattle.frames.proofs.Images.{flag_number-small}

-- the struct has in use behind its state; the record's bytes have it last
typed_record : (t : TaskControlBlock) (vs : List Val) → Is (row block.the_type) t vs → FitsRecord t
unfolding Fit
typed_record t vs (_, (_, (tid, (_, (_, (_, (context, (cr3, (rsp0, (mask, (budget, (consumed, _)))))))))))) = (
  tid.1.1.0.1,
  (
    omega (arith, band_code-small t.qos),
    (
      omega (arith, state_code-small t.state),
      (
        context.1,
        (
          cr3.1,
          (
            rsp0.1,
            (mask.1, (budget.1, (consumed.1, (omega (arith, flag_number-small t.in_use), tt)))),
          ),
        ),
      ),
    ),
  ),
)

typed_records : (ts : List TaskControlBlock) (vs : List Val) →
    shadow (each (block.the_row).Denot (block.the_row).own_val ts vs) → Each FitsRecord ts
unfolding Each
typed_records [] vs p = tt
typed_records (t ∷ ts) [] p = absurd p
typed_records (t ∷ ts) (v ∷ vs) p = (typed_record t (v ∷ []) p.0, typed_records ts vs p.1)

pub typed_fits : (s : QoSScheduler) (vs : List Val) → Is (row scheduler.the_type) s vs → FitsImage (abs s)
unfolding abs
typed_fits s vs (_, (_, (tasks, (_, (_, (micros, _)))))) = record { records = typed_records s.tasks tasks.0 tasks.1.1; micros = micros.1 }

-- so its state has an image
pub typed_image : (s : QoSScheduler) (vs : List Val) → Is (row scheduler.the_type) s vs → HasImage (abs s)
unfolding abs
typed_image s vs p = has_image (abs s) (accepts_sound (abs s) s.accepted) (typed_fits s vs p)
