-- `wake_task` meets its contract: the laws of `OnSlots` say what the wake comes to on each way. Assumes nothing.
use Rattle.rules.specs.declared.call.Call.TheVariants.{Wake}
use Rattle.scheduler.specs.Scheduler.{abs}
use Rattle.scheduler.proofs.OnSlots.{held_is, wake_missing, wake_awake, wake_as_enqueue, wake_held}
use Rattle.scheduler.proofs.Promises.{kept, meets_as, meets_refused, meets_told}
use Rattle.scheduler.proofs.scheduler.QoSScheduler.wake_task.Goals as goal

pub returns-in_default : goal.returns-in_default
returns-in_default c = meets_refused c.refused.ensures (wake_missing _ _ c.in_default.ensures)

pub returns-then-ne : goal.returns-then-ne
returns-then-ne c = meets_refused c.refused-then-ne.ensures (wake_awake _ _ c.in-Some.ensures c.if-ne.ensures)

pub returns-then-is_none : goal.returns-then-is_none
returns-then-is_none c =
    meets_as c.enqueue_ready.ensures
    (wake_as_enqueue (abs c.args.self) c.args.slot.0 c.in-Some.ensures c.if-ne.ensures
    (held_is (abs c.args.self) c.args.slot.0 c.core_holding.ensures c.if-is_none.ensures))

pub invariant_of-self-clause-accepted : goal.invariant_of-self-clause-accepted
unfolding abs
invariant_of-self-clause-accepted c =
    kept (Wake c.args.slot) c.args.self
    (wake_held (abs c.args.self) c.args.slot.0 c.in-Some.ensures c.if-ne.ensures
    (held_is (abs c.args.self) c.args.slot.0 c.core_holding.ensures c.if-is_none.ensures) c.with_state.ensures)

pub returns : goal.returns
unfolding abs
returns c =
    meets_told c.told.ensures
    (wake_held (abs c.args.self) c.args.slot.0 c.in-Some.ensures c.if-ne.ensures
    (held_is (abs c.args.self) c.args.slot.0 c.core_holding.ensures c.if-is_none.ensures) c.with_state.ensures)
