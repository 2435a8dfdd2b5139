-- `out_of_queues` meets its contract. The invariant: the slot is out of the queues so far, and the others are as they were. Assumes nothing.
use Rattle.std.proofs.Common.{◌≡◌, ℕ, ◌<◌, ◌≤◌, [], map, length, get_or}
use Rattle.queue.specs.Stored.{entries}
use Rattle.queue.specs.Entries.{without}
use Rattle.scheduler.proofs.waking.out_of_queues.Given as goal

abbrev pub invariant-loop-queue : goal.invariant-loop-queue
invariant-loop-queue l = record {
  whole : length l.queues ≡ 3;
  out : (k : ℕ) → k < l.queue-index → get_or (map entries l.queues) k [] ≡ without l.slot.0 (get_or (map entries l.initial.queues) k []);
  rest : (k : ℕ) → l.queue-index ≤ k → get_or (map entries l.queues) k [] ≡ get_or (map entries l.initial.queues) k [];
}
