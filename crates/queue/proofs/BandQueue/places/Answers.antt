use mathlib.Core.Path.{ap, ◌∙◌}
use native.Mathlib.Omega.{arith}
use Rattle.queue.proofs.Places.{places-none, places_on}
use Rattle.queue.specs.Entries.{places as places_of}
use Rattle.queue.specs.Stored.{window, entries}
use Rattle.queue.proofs.BandQueue.places.Goals as goal

pub loop-place-init : goal.loop-place-init
unfolding window
loop-place-init c = places-none

pub loop-place-preserved : goal.loop-place-preserved
loop-place-preserved c = places_on _ _ _ (omega arith) c.loop-place.invariant

pub returns : goal.returns
unfolding entries
returns c = c.loop-place.invariant ∙ ap (λ n. places_of (window c.args.self.now.ring c.args.self.now.head n)) (omega arith)
