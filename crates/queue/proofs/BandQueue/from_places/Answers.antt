-- `BandQueue::from_places` meets its contract: the entries stand at the front of the ring. Assumes nothing.
use borrow.Author.Rules.{rules}
use Rattle.queue.specs.Stored.{entries}
use Rattle.queue.proofs.Stored.{window_places}
use Rattle.queue.proofs.BandQueue.from_places.Goals as goal

pub returns : goal.returns
unfolding entries
returns c = rw c.min.ensures (window_places c.args.places (search rules) c.args.len)
