-- `BandQueue::remove` meets its contract. The invariant: what was kept so far, and what will be kept of the rest, is what is asked for.
-- Assumes nothing.
use mathlib.Core.Path.{◌≡◌}
use Rattle.queue.proofs.Removal.{Removing}
use Rattle.queue.proofs.BandQueue.remove.Given as goal

abbrev pub invariant-loop-place : goal.invariant-loop-place
invariant-loop-place l = (l.self.head ≡ l.head) × Removing l.initial.self l.slot.0 l.self.ring l.kept l.place
