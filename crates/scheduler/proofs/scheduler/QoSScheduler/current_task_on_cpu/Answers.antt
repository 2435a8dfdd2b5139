-- `current_task_on_cpu` meets its contract: the record of the core's holder. Assumes nothing.
use Rattle.std.proofs.Common.{◌∙◌}
use Rattle.scheduler.proofs.OnCores.{holder_task}
use Rattle.scheduler.proofs.scheduler.QoSScheduler.current_task_on_cpu.Goals as goal

pub returns-in_err-holder_on : goal.returns-in_err-holder_on
returns-in_err-holder_on c = c.from_residual.ensures ∙ holder_task c.args.self.now c.args.core c.in_err-holder_on.ensures.holder

pub returns : goal.returns
returns c = c.task.ensures ∙ holder_task c.args.self.now c.args.core c.in_ok-holder_on.ensures.holder
