-- `holder_fits` meets its contract: a law for a holder that is a slot of the table, and one for a holder that is none. Assumes nothing.
use Rattle.frames.proofs.Accepting.{holder_past, holder_slot}
use Rattle.frames.proofs.accept.holder_fits.Goals as goal

pub returns-then-slot-lt-MAX_TASKS : goal.returns-then-slot-lt-MAX_TASKS
returns-then-slot-lt-MAX_TASKS c =
    holder_slot c.args.image.now c.if-holder-eq-NO_HOLDER.false c.from-slot.ensures c.if-slot-lt-MAX_TASKS.true c.record_at.ensures c.may_hold.ensures

pub returns-else-slot-lt-MAX_TASKS : goal.returns-else-slot-lt-MAX_TASKS
returns-else-slot-lt-MAX_TASKS c = holder_past c.args.image.now c.if-holder-eq-NO_HOLDER.false c.from-slot.ensures c.if-slot-lt-MAX_TASKS.false
