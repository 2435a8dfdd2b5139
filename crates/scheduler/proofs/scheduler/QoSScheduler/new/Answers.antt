-- `new` meets its contract: the new state is stored, and it is accepted. Assumes nothing.
use Rattle.std.proofs.Common.{refl}
use Rattle.rules.proofs.Calls.{new-accepted}
use Rattle.scheduler.proofs.Builders.{accepted_as}
use Rattle.scheduler.specs.Stored.{queues_of}
use Rattle.scheduler.specs.Scheduler.{abs}
use Rattle.scheduler.proofs.scheduler.QoSScheduler.new.Goals as goal

pub invariant_of-result-clause-accepted : goal.invariant_of-result-clause-accepted
unfolding queues_of
invariant_of-result-clause-accepted c = accepted_as (rw c.new.ensures refl) new-accepted

pub returns : goal.returns
unfolding abs queues_of
returns c = rw c.new.ensures refl
