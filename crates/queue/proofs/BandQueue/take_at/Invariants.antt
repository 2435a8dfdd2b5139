-- `BandQueue::take_at` meets its contract. The invariant: the entries passed so far have gone to the tail, in their order. Assumes nothing.
use Rattle.queue.proofs.Taking.{Turned}
use Rattle.queue.proofs.BandQueue.take_at.Given as goal

abbrev pub invariant-loop-moved : goal.invariant-loop-moved
invariant-loop-moved l = Turned l.initial.self l._moved l.self.ring l.head
