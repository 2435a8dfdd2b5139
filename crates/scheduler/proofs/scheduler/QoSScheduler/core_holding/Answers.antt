-- `core_holding` meets its contract: it searches through the holders. Assumes nothing.
use Rattle.std.proofs.Common.{rules, ℕ, eqb}
use borrow.Author.Tests.{tests}
use Rattle.std.proofs.lemmas.Iterator.{YieldsList-from_slice}
use Rattle.scheduler.specs.Scheduler.{abs}
use Rattle.scheduler.proofs.Arrays.{cores}
use Rattle.scheduler.proofs.Searches.{searched}
use Rattle.scheduler.proofs.scheduler.QoSScheduler.core_holding.Goals as goal

pub returns : goal.returns
unfolding abs
returns c =
    searched (λ (h : ℕ). eqb h c.args.slot.0) (cores c.args.self.now) _ _ _ c.position.ensures.ran
    (YieldsList-from_slice c.args.self.now.current cc) (λ x b q k. search (rules, tests))
