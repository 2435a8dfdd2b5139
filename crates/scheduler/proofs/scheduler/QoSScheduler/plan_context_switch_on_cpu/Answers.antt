-- `plan_context_switch_on_cpu` meets its contract: it is the tick, told as a plan. Assumes nothing.
use Rattle.scheduler.proofs.OnCores.{plan_told}
use Rattle.scheduler.proofs.scheduler.QoSScheduler.plan_context_switch_on_cpu.Goals as goal

pub returns : goal.returns
returns c = plan_told c.ticked.ensures
