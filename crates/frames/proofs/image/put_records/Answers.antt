use mathlib.Core.Path.{ap, ◌∙◌}
use lib.Seq.{sets}
use native.Mathlib.Omega.{arith}
use Rattle.frames.proofs.Writings.{records_on, records_end}
use Rattle.frames.proofs.image.put_records.Goals as goal

pub loop-slot-preserved : goal.loop-slot-preserved
loop-slot-preserved c =
    records_on _ c.args.tasks.now c.loop-slot.slot _ (omega arith) (c.put_bytes.ensures ∙ ap (sets _ _) c.record_bytes.ensures)
    ∙ c.loop-slot.invariant

pub returns : goal.returns
returns c =
    records_end _ c.args.tasks.now c.loop-slot.slot (omega arith) ∙ c.loop-slot.invariant
