-- `create_task_with_vspace` meets its contract: the laws of `OnSlots` say what the create comes to on each way. Assumes nothing.
use Rattle.std.proofs.Common.{rules, Bool, not}
use borrow.Author.Tests.{tests}
use Rattle.std.proofs.lemmas.Iterator.{YieldsList-from_slice}
use Rattle.std.specs.Prelude.{None, Some}
use Rattle.records.specs.declared.task.TaskControlBlock.{TaskControlBlock}
use Rattle.rules.specs.declared.call.Call.TheVariants.{Create}
use Rattle.scheduler.specs.Scheduler.{abs}
use Rattle.scheduler.proofs.Arrays.{slots}
use Rattle.scheduler.proofs.Searches.{searched}
use Rattle.scheduler.proofs.OnSlots.{create_full, create_done}
use Rattle.scheduler.proofs.Promises.{kept, meets_refused, meets_told}
use Rattle.scheduler.proofs.scheduler.QoSScheduler.create_task_with_vspace.Goals as goal

abbrev is_free : TaskControlBlock → Bool
is_free t = not t.in_use

pub returns-in_default : goal.returns-in_default
unfolding abs
returns-in_default c =
    meets_refused c.refused.ensures (create_full (abs c.args.self) _ _ _ _ _
    (searched is_free (slots c.args.self) _ _ None c.in_default.ensures.ran
    (YieldsList-from_slice c.args.self.tasks cc) (λ x b q k. search (rules, tests))))

pub invariant_of-self-clause-accepted : goal.invariant_of-self-clause-accepted
unfolding abs
invariant_of-self-clause-accepted c =
    kept (Create c.args.tid c.args.qos c.args.context_handle c.args.cr3 c.args.rsp0) c.args.self
    (create_done (abs c.args.self) _ _ _ _ _
    (searched is_free (slots c.args.self) _ _ (Some c.in-Some.free) c.in-Some.ensures.ran
    (YieldsList-from_slice c.args.self.tasks cc) (λ x b q k. search (rules, tests)))
    c.created.ensures)

pub returns : goal.returns
unfolding abs
returns c =
    meets_told c.told.ensures
    (create_done (abs c.args.self) _ _ _ _ _
    (searched is_free (slots c.args.self) _ _ (Some c.in-Some.free) c.in-Some.ensures.ran
    (YieldsList-from_slice c.args.self.tasks cc) (λ x b q k. search (rules, tests)))
    c.created.ensures)
