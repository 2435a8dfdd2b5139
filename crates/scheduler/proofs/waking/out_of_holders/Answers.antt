-- The answers of `out_of_holders`: each core is let go, and at the end all are. Assumes nothing.
use Rattle.std.proofs.Common.{arith}
use Rattle.rules.specs.Waking.{released}
use Rattle.scheduler.proofs.Mapped.{mapped_begin, mapped_on, mapped_ended}
use Rattle.scheduler.proofs.waking.out_of_holders.Goals as goal

pub loop-number-init : goal.loop-number-init
loop-number-init c = mapped_begin (released c.args.slot.0) c.args.current.now

pub loop-number-preserved : goal.loop-number-preserved
loop-number-preserved c =
    mapped_on (released c.args.slot.0) c.loop-number.number-index c.args.current.now 0 c.loop-number.invariant c.released.ensures

pub returns : goal.returns
returns c =
    mapped_ended (released c.args.slot.0) c.loop-number.number-index c.args.current.now c.loop-number.invariant
    (omega (arith, c.loop-number-test.false, c.told-current))
