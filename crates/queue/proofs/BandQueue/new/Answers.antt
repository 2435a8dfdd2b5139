-- `BandQueue::new` meets its contract: no place of the ring is in use. Assumes nothing.
use mathlib.Core.Path.{refl}
use Rattle.queue.specs.Stored.{window, entries}
use Rattle.queue.proofs.BandQueue.new.Goals as goal

pub returns : goal.returns
unfolding window entries
returns c = refl
