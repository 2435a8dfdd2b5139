-- `state_at` meets its contract: the records that were read make, with the other parts, the image's state, which is accepted. Assumes nothing.
use Rattle.std.proofs.Common.{rules, subst, sym}
use Rattle.rules.specs.Accepted.{Accepted}
use Rattle.rules.proofs.Accepts.{accepts_complete}
use Rattle.scheduler.specs.Scheduler.{abs}
use Rattle.frames.proofs.Readings.{records_are, state_is}
use Rattle.frames.proofs.read.state_at.Goals as goal
use Rattle.frames.proofs.read.state_at.Goals.{After-number}
use Rattle.std.proofs.Common.{◌≡◌}
use Rattle.scheduler.specs.Stored.{state_of}
use Rattle.frames.specs.Image.{state_at}

made : (c : After-number) → state_of c.from_fn-tasks.result c.queues_at.result c.holders_at.result.now c.number.result ≡ state_at c.args.image.now
made c =
    let image = c.args.image.now in
    let tasks = records_are image _ _ _ c.from_fn-tasks.ensures.items (λ slot t q low called. search rules) in
    state_is image _ tasks c.queues_at.ensures c.holders_at.ensures c.number.ensures

pub invariant_of-result : goal.invariant_of-result
invariant_of-result c =
    record { bands = search rules; accepted = accepts_complete _ (subst Accepted (sym (made (goal.at.invariant_of-result c).After-number)) c.requires.base.state) }

pub returns : goal.returns
unfolding abs
returns c = made (goal.at.returns c).After-number
