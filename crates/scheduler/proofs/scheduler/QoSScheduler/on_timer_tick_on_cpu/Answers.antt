-- `on_timer_tick_on_cpu` meets its contract: it is the tick, told as a slot. Assumes nothing.
use Rattle.scheduler.proofs.OnCores.{tick_told}
use Rattle.scheduler.proofs.scheduler.QoSScheduler.on_timer_tick_on_cpu.Goals as goal

pub returns : goal.returns
returns c = tick_told c.ticked.ensures
