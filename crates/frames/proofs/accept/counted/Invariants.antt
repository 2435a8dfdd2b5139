-- `counted` meets its contract. The loop's invariant: the counts have gained the queue's entries so far. Assumes nothing.
use Rattle.frames.proofs.Counting.{Counting}
use Rattle.frames.proofs.accept.counted.Given as goal

abbrev pub invariant-loop-slot : goal.invariant-loop-slot
invariant-loop-slot l = Counting l.slot-items l.initial.counts l.slot-index l.counts
