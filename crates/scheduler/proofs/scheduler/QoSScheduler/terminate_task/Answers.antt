-- `terminate_task` meets its contract: the laws of `OnSlots` say what the terminate comes to on each way. Assumes nothing.
use Rattle.std.proofs.Common.{arith}
use Rattle.rules.specs.declared.call.Call.TheVariants.{Terminate}
use Rattle.scheduler.specs.Scheduler.{abs}
use Rattle.scheduler.proofs.OnSlots.{slot_low, terminate_past, terminate_done}
use Rattle.scheduler.proofs.Promises.{kept, meets_refused, meets_told}
use Rattle.scheduler.proofs.scheduler.QoSScheduler.terminate_task.Goals as goal

pub returns-in_default : goal.returns-in_default
returns-in_default c = meets_refused c.refused.ensures (terminate_past _ _ c.in_default.ensures)

pub offset_bounds-self-slot : goal.offset_bounds-self-slot
offset_bounds-self-slot c = omega (arith, slot_low _ _ c.in-Some.ensures)

pub bounds-self-slot : goal.bounds-self-slot
bounds-self-slot c = slot_low _ _ c.in-Some.ensures

pub invariant_of-self-clause-bands : goal.invariant_of-self-clause-bands
invariant_of-self-clause-bands c = c.out_of_queues.ensures.bands

pub invariant_of-self-clause-accepted : goal.invariant_of-self-clause-accepted
unfolding abs
invariant_of-self-clause-accepted c =
    kept (Terminate c.args.slot) c.args.self (terminate_done _ _ c.in-Some.ensures c.terminated.ensures c.out_of_queues.ensures.queues_are
    c.out_of_holders.ensures)

pub returns : goal.returns
unfolding abs
returns c =
    meets_told c.told.ensures (terminate_done _ _ c.in-Some.ensures c.terminated.ensures c.out_of_queues.ensures.queues_are
    c.out_of_holders.ensures)
