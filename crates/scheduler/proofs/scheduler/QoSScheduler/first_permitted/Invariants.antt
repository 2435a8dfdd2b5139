-- `first_permitted` meets its contract. The invariant: nothing before the place may use the core. Assumes nothing.
use Rattle.scheduler.specs.Scheduler.{abs}
use Rattle.scheduler.proofs.OnBands.{NoneBefore}
use Rattle.scheduler.proofs.scheduler.QoSScheduler.first_permitted.Given as goal

abbrev pub invariant-loop-place : goal.invariant-loop-place
invariant-loop-place l = NoneBefore (abs l.self) l.core l.fn.band l.place
