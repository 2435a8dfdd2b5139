-- `block_task` meets its contract: the laws of `OnSlots` say what the block comes to on each way. Assumes nothing.
use Rattle.rules.specs.declared.call.Call.TheVariants.{Block}
use Rattle.scheduler.specs.Scheduler.{abs}
use Rattle.scheduler.proofs.OnSlots.{block_missing, block_again, block_done}
use Rattle.scheduler.proofs.Promises.{kept, meets_refused, meets_told}
use Rattle.scheduler.proofs.scheduler.QoSScheduler.block_task.Goals as goal

pub returns-in_default : goal.returns-in_default
returns-in_default c = meets_refused c.refused.ensures (block_missing _ _ c.in_default.ensures)

pub returns-then-eq : goal.returns-then-eq
returns-then-eq c = meets_refused c.refused-then-eq.ensures (block_again _ _ c.in-Some.ensures c.if-eq.ensures)

pub invariant_of-self-clause-bands : goal.invariant_of-self-clause-bands
invariant_of-self-clause-bands c = c.out_of_queues.ensures.bands

pub invariant_of-self-clause-accepted : goal.invariant_of-self-clause-accepted
unfolding abs
invariant_of-self-clause-accepted c =
    kept (Block c.args.slot) c.args.self (block_done _ _ c.in-Some.ensures c.if-eq.ensures c.out_of_queues.ensures.queues_are c.blocked.ensures)

pub returns : goal.returns
unfolding abs
returns c =
    meets_told c.told.ensures (block_done _ _ c.in-Some.ensures c.if-eq.ensures c.out_of_queues.ensures.queues_are c.blocked.ensures)
