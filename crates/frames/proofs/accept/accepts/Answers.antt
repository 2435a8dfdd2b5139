-- `accepts` meets its contract: the queues, the slots and the cores one after the other, each asked where those before it passed. Assumes nothing.
use Rattle.std.proofs.Common.{◌≡◌, refl, ◌∙◌}
use Rattle.std.specs.Prelude.{◌&&◌}
use Rattle.frames.proofs.Passing.{passed_on, failed_on}
use Rattle.frames.proofs.Accepting.{queues, slots, lengths_fit, accepts_is}
use Rattle.frames.proofs.accept.accepts.Goals as goal
use Rattle.frames.proofs.accept.accepts.Goals.{Joined-bands_fit}
use Rattle.frames.proofs.accept.accepts.Goals.{then-bands_fit, else-bands_fit}

pub slots_fit-requires : goal.slots_fit-requires
slots_fit-requires c = lengths_fit c.args.image.now c.bands_fit.ensures c.if-bands_fit.true

-- the queues and the slots
two : (c : Joined-bands_fit) → c.if-bands_fit.value ≡ queues c.args.image.now && slots c.args.image.now
two c = elim c.if-bands_fit.branch [
  | then-bands_fit w ↦ passed_on c.bands_fit.ensures w.if-bands_fit.true (w.value-is ∙ w.slots_fit.ensures)
  | else-bands_fit w ↦ failed_on c.bands_fit.ensures _ w.if-bands_fit.false w.value-is
]

pub returns-then-slots_fit : goal.returns-then-slots_fit
returns-then-slots_fit c =
    passed_on (two (goal.at.returns-then-slots_fit c).Joined-bands_fit) c.if-slots_fit.true c.cores_fit.ensures
    ∙ accepts_is c.args.image.now c.told-image c.fits-image

pub returns-else-slots_fit : goal.returns-else-slots_fit
returns-else-slots_fit c =
    failed_on (two (goal.at.returns-else-slots_fit c).Joined-bands_fit) _ c.if-slots_fit.false refl ∙ accepts_is c.args.image.now c.told-image c.fits-image
