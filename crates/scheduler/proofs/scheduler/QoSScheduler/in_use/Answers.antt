-- `in_use` meets its contract: the record that `task` answers, where it is in use. Assumes nothing.
use Rattle.std.proofs.Common.{arith}
use Rattle.std.proofs.lemmas.Grind.{common_steps}
use Rattle.rules.specs.Queries.{task_at}
use Rattle.scheduler.proofs.scheduler.QoSScheduler.in_use.Goals as goal

pub returns : goal.returns
unfolding task_at
returns c = grind (arith, common_steps)
