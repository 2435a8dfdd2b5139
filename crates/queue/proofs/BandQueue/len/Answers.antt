-- `BandQueue::len` meets its contract. Assumes nothing.
use mathlib.Core.Path.{sym}
use Rattle.queue.proofs.Places.{length_entries}
use Rattle.queue.proofs.BandQueue.len.Goals as goal

pub returns : goal.returns
returns c = sym (length_entries _)
