-- `enqueue_ready` meets its contract: the laws of `OnSlots` say what the enqueue comes to on each way. Assumes nothing.
use Rattle.rules.specs.declared.call.Call.TheVariants.{Enqueue}
use Rattle.scheduler.specs.Scheduler.{abs}
use Rattle.scheduler.proofs.Arrays.{valid, push_answer, push_queues}
use Rattle.scheduler.proofs.Builders.{accepted_as}
use Rattle.scheduler.proofs.OnSlots.{enqueue_missing, enqueue_again, enqueue_full, full_stays, enqueue_done}
use Rattle.scheduler.proofs.Promises.{kept, meets_left, meets_refused, meets_told}
use Rattle.scheduler.proofs.scheduler.QoSScheduler.enqueue_ready.Goals as goal

pub returns-in_default : goal.returns-in_default
returns-in_default c = meets_refused c.refused.ensures (enqueue_missing _ _ c.in_default.ensures)

pub returns-then-eq : goal.returns-then-eq
returns-then-eq c = meets_refused c.refused-then-eq.ensures (enqueue_again _ _ c.in-Some.ensures c.if-eq.ensures)

pub invariant_of-self-clause-accepted : goal.invariant_of-self-clause-accepted
unfolding abs
invariant_of-self-clause-accepted c =
    accepted_as
    (full_stays (abs c.args.self) c.args.slot.0 c.in-Some.ensures (push_answer c.args.self _ c.code.ensures.is _ c.in-Err.ensures)
    (push_queues c.args.self _ c.code.ensures.is _ c.in-Err.ensures))
    (valid c.args.self)

pub returns-in-Err : goal.returns-in-Err
unfolding abs
returns-in-Err c =
    meets_left c.refused-in-Err.ensures
    (full_stays (abs c.args.self) c.args.slot.0 c.in-Some.ensures (push_answer c.args.self _ c.code.ensures.is _ c.in-Err.ensures)
    (push_queues c.args.self _ c.code.ensures.is _ c.in-Err.ensures))
    (enqueue_full _ _ c.in-Some.ensures c.if-eq.ensures (push_answer c.args.self _ c.code.ensures.is _ c.in-Err.ensures))

pub invariant_of-self-2-clause-accepted : goal.invariant_of-self-2-clause-accepted
unfolding abs
invariant_of-self-2-clause-accepted c =
    kept (Enqueue c.args.slot) c.args.self
    (enqueue_done _ _ c.in-Some.ensures c.if-eq.ensures (push_answer c.args.self _ c.code.ensures.is _ c.in_default-push.ensures)
    (push_queues c.args.self _ c.code.ensures.is _ c.in_default-push.ensures) c.with_state.ensures)

pub returns : goal.returns
unfolding abs
returns c =
    meets_told c.told.ensures
    (enqueue_done _ _ c.in-Some.ensures c.if-eq.ensures (push_answer c.args.self _ c.code.ensures.is _ c.in_default-push.ensures)
    (push_queues c.args.self _ c.code.ensures.is _ c.in_default-push.ensures) c.with_state.ensures)
