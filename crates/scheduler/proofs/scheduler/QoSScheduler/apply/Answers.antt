-- `apply` meets its contract: the tick, told in either form, and what `apply_any` does. Assumes nothing.
use Rattle.scheduler.proofs.OnCores.{tick_told, plan_told}
use Rattle.scheduler.proofs.Promises.{meets_call}
use Rattle.scheduler.proofs.scheduler.QoSScheduler.apply.Goals as goal

pub returns-in-Tick : goal.returns-in-Tick
returns-in-Tick c = meets_call c.in-Tick.is (tick_told c.ticked.ensures)

pub returns-in-Plan : goal.returns-in-Plan
returns-in-Plan c = meets_call c.in-Plan.is (plan_told c.ticked-in-Plan.ensures)
