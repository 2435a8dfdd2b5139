-- `pick` meets its contract. The invariant: no band before this one has an entry that may use the core. Assumes nothing.
use Rattle.std.proofs.Common.{◌≡◌}
use Rattle.scheduler.specs.Scheduler.{abs}
use Rattle.scheduler.proofs.OnBands.{NoBandBefore}
use Rattle.scheduler.proofs.scheduler.QoSScheduler.pick.Given as goal

abbrev pub invariant-loop-band : goal.invariant-loop-band
invariant-loop-band l = record {
  same : l.self ≡ l.fn.self;
  before : NoBandBefore (abs l.self) l.core l.band-index;
}
