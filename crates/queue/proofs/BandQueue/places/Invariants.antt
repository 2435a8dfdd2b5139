-- `BandQueue::places` meets its contract. The invariant: the places hold the entries so far, and 0 behind them. Assumes nothing.
use mathlib.Core.Path.{◌≡◌}
use Rattle.queue.specs.Entries.{places as places_of}
use Rattle.queue.specs.Stored.{window}
use Rattle.queue.proofs.BandQueue.places.Given as goal

abbrev pub invariant-loop-place : goal.invariant-loop-place
invariant-loop-place l = l.places ≡ places_of (window l.self.ring l.self.head l.place)
