-- `schedule_on_cpu` meets its contract: it is P alone. Assumes nothing.
use Rattle.std.proofs.Common.{ap, refl}
use Rattle.rules.specs.Picking.{answer_slot, schedule}
use Rattle.rules.proofs.Picks.{P-past}
use Rattle.scheduler.specs.Scheduler.{abs}
use Rattle.scheduler.proofs.Promises.{meets_given, meets_told}
use Rattle.scheduler.proofs.scheduler.QoSScheduler.schedule_on_cpu.Goals as goal

pub returns-then-core-ge-MAX_CPUS : goal.returns-then-core-ge-MAX_CPUS
unfolding schedule
returns-then-core-ge-MAX_CPUS c = meets_told c.told.ensures (ap answer_slot (P-past (abs c.args.self) c.args.core c.if-core-ge-MAX_CPUS.true))

pub returns : goal.returns
unfolding schedule
returns c = meets_given c.pick.ensures refl
