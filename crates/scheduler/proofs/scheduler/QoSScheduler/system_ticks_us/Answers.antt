-- `system_ticks_us` meets its contract: the field is read. Assumes nothing.
use Rattle.std.proofs.Common.{refl}
use Rattle.scheduler.specs.Scheduler.{abs}
use Rattle.scheduler.proofs.scheduler.QoSScheduler.system_ticks_us.Goals as goal

pub returns : goal.returns
unfolding abs
returns c = refl
