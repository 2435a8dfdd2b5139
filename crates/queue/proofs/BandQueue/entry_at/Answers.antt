-- `BandQueue::entry_at` meets its contract: the two answers are those of `Places`. Assumes nothing.
use Rattle.queue.proofs.Places.{entry_past, entry_in}
use Rattle.queue.proofs.BandQueue.entry_at.Goals as goal

pub returns-then-place-self : goal.returns-then-place-self
returns-then-place-self c = entry_past _ _ c.if-place-self.true

pub returns : goal.returns
returns c = entry_in _ _ _ c.if-place-self.false c.slot_of.ensures
