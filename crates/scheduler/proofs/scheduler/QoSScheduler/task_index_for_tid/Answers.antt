-- `task_index_for_tid` meets its contract: it searches through the records. Assumes nothing.
use Rattle.std.proofs.Common.{rules, arith}
use borrow.Author.Tests.{tests}
use Rattle.std.proofs.lemmas.Grind.{common_steps}
use Rattle.std.proofs.lemmas.Iterator.{YieldsList-from_slice}
use Rattle.rules.specs.Queries.{has_tid, task_index_for_tid}
use Rattle.scheduler.specs.Scheduler.{abs}
use Rattle.scheduler.proofs.Arrays.{slots}
use Rattle.scheduler.proofs.Searches.{searched}
use Rattle.scheduler.proofs.scheduler.QoSScheduler.task_index_for_tid.Goals as goal

pub returns : goal.returns
unfolding abs task_index_for_tid
returns c =
    let found =
    searched (has_tid c.args.tid.0) (slots c.args.self.now) _ _ c.position.result c.position.ensures.ran
    (YieldsList-from_slice c.args.self.now.tasks cc) (λ x b q k. search (rules, tests)) in
    grind (arith, common_steps, found)
