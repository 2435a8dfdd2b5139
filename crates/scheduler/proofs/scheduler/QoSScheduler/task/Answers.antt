-- `task` meets its contract: the array has the 64 slots. Assumes nothing.
use Rattle.std.proofs.Common.{arith}
use Rattle.std.proofs.lemmas.Grind.{common_steps}
use Rattle.rules.specs.Queries.{task_at}
use Rattle.scheduler.specs.Scheduler.{abs}
use Rattle.scheduler.proofs.Arrays.{slots}
use Rattle.scheduler.proofs.scheduler.QoSScheduler.task.Goals as goal

pub returns : goal.returns
unfolding task_at abs
returns c = let l = slots c.args.self.now in grind (arith, common_steps)
