-- `can_run_on_core` meets its contract: the array has the 64 slots. Assumes nothing.
use Rattle.std.proofs.Common.{arith}
use Rattle.std.proofs.lemmas.Grind.{common_steps}
use Rattle.rules.specs.Queries.{can_run_on_core}
use Rattle.scheduler.specs.Scheduler.{abs}
use Rattle.scheduler.proofs.Arrays.{slots}
use Rattle.scheduler.proofs.scheduler.QoSScheduler.can_run_on_core.Goals as goal

pub returns : goal.returns
unfolding can_run_on_core abs
returns c = let l = slots c.args.self.now in grind (arith, common_steps)
