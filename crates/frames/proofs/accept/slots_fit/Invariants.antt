-- `slots_fit` meets its contract. The loop's invariant: of every slot so far the record fits, and the slot stands in the queues once or is not Ready.
-- Assumes nothing.
use Rattle.rules.specs.Accepted.{stands_once}
use Rattle.frames.specs.Image.{state_at}
use Rattle.frames.specs.AcceptedImage.{slot_fits}
use Rattle.frames.proofs.Passing.{Passing}
use Rattle.frames.proofs.accept.slots_fit.Given as goal

abbrev pub invariant-loop-slot : goal.invariant-loop-slot
invariant-loop-slot l = Passing (slot_fits l.image) l.slot × Passing (stands_once (state_at l.image)) l.slot
