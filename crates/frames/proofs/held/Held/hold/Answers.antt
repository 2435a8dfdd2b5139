-- `hold` meets its contract: as many bytes as have room are stored behind those that are held. Assumes nothing.
use native.Mathlib.Omega.{arith}
use Rattle.frames.specs.Stream.{held_bytes}
use Rattle.frames.proofs.Holding.{holds}
use Rattle.frames.proofs.held.Held.hold.Goals as goal

pub returns : goal.returns
unfolding held_bytes
returns c = holds c.args.self.now c.args.more.now (omega (arith, c.min-n.ensures)) c.put_all.ensures
