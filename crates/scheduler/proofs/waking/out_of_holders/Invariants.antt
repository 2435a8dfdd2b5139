-- `out_of_holders` meets its contract. The invariant: the cores so far are let go, and the others are as they were. Assumes nothing.
use Rattle.std.proofs.Common.{◌≡◌}
use Rattle.rules.specs.Waking.{released}
use Rattle.scheduler.proofs.Mapped.{mapped}
use Rattle.scheduler.proofs.waking.out_of_holders.Given as goal

abbrev pub invariant-loop-number : goal.invariant-loop-number
invariant-loop-number l = l.current ≡ mapped (released l.slot.0) l.number-index l.initial.current
