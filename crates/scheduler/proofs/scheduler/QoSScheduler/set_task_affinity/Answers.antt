-- `set_task_affinity` meets its contract: the laws of `OnSlots` say what the call comes to on each way. Assumes nothing.
use Rattle.std.proofs.Common.{arith}
use Rattle.rules.specs.declared.call.Call.TheVariants.{Affinity}
use Rattle.scheduler.specs.Scheduler.{abs}
use Rattle.scheduler.proofs.OnSlots.{slot_low, affinity_past, affinity_done}
use Rattle.scheduler.proofs.Promises.{kept, meets_refused, meets_told}
use Rattle.scheduler.proofs.scheduler.QoSScheduler.set_task_affinity.Goals as goal

pub returns-in_default : goal.returns-in_default
returns-in_default c = meets_refused c.refused.ensures (affinity_past _ _ _ c.in_default.ensures)

pub offset_bounds-self-slot : goal.offset_bounds-self-slot
offset_bounds-self-slot c = omega (arith, slot_low _ _ c.in-Some.ensures)

pub bounds-self-slot : goal.bounds-self-slot
bounds-self-slot c = slot_low _ _ c.in-Some.ensures

pub invariant_of-self-clause-accepted : goal.invariant_of-self-clause-accepted
unfolding abs
invariant_of-self-clause-accepted c =
    kept (Affinity c.args.slot c.args.mask) c.args.self (affinity_done _ _ _ c.in-Some.ensures c.with_affinity.ensures)

pub returns : goal.returns
unfolding abs
returns c = meets_told c.told.ensures (affinity_done _ _ _ c.in-Some.ensures c.with_affinity.ensures)
