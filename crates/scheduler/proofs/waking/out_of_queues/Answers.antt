-- The answers of `out_of_queues`: at the end the slot is out of all three. Assumes nothing.
use Rattle.std.proofs.Common.{arith}
use Rattle.scheduler.specs.Stored.{queues_of}
use Rattle.scheduler.proofs.waking.out_of_queues.Goals as goal

pub returns : goal.returns
unfolding queues_of
returns c =
    let l = c.loop-queue.invariant in
    record {
      bands = l.whole;
      queues_are = λ i. record { interactive = l.out 0 (omega arith) i; real_time = l.out 1 (omega arith) i; background = l.out 2 (omega arith) i };
    }
