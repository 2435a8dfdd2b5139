-- `holder` meets its contract: a slot of 64 and above is held by nobody. Assumes nothing.
use Rattle.std.proofs.Common.{le-leb}
use borrow.Author.Tests.{lt-leb}
use Rattle.rules.specs.Queries.{core_of}
use Rattle.scheduler.proofs.scheduler.QoSScheduler.holder.Goals as goal

pub returns-then-slot-ge-MAX_TASKS : goal.returns-then-slot-ge-MAX_TASKS
unfolding core_of
returns-then-slot-ge-MAX_TASKS c = rw (le-leb 64 c.args.slot.0 c.if-slot-ge-MAX_TASKS.true)

pub returns : goal.returns
unfolding core_of
returns c = rw (lt-leb 64 c.args.slot.0 c.if-slot-ge-MAX_TASKS.false) c.core_holding.ensures
