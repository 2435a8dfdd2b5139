-- `new` meets its contract: nothing is held. Assumes nothing.
use mathlib.Core.Path.{refl}
use Rattle.frames.specs.Stream.{held_bytes}
use Rattle.frames.proofs.held.Held.new.Goals as goal

pub returns : goal.returns
unfolding held_bytes
returns c = refl
