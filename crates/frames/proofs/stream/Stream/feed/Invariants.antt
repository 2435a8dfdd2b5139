-- `feed` meets its contract. The loop's invariant: what is done, and what the rest of the block makes in the room that is left, is what is asked for.
-- The measure is what is left of the block, and what is held. Assumes nothing.
use Prim.Native.Nat.{◌+◌, ◌-◌}
use lib.ListN.{length}
use Rattle.frames.specs.Stream.{held_bytes}
use Rattle.frames.proofs.Progress.{Going}
use Rattle.frames.proofs.stream.Stream.feed.Given as goal

abbrev pub invariant-loop-held : goal.invariant-loop-held
invariant-loop-held l =
    Going l.last (record { state = l.initial.state; held = l.initial.held }) l.block l.initial.out l.out l.state l.held l.used l.written

abbrev pub decreases-loop-held : goal.decreases-loop-held
decreases-loop-held l = length l.block - l.used + length (held_bytes l.held)
