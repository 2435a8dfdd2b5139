-- The answers of `pick`, from the laws of `OnBands`. Assumes nothing.
use Rattle.std.proofs.Common.{rules, arith, ap, sym, ◌∙◌, refl}
use Rattle.rules.specs.Picking.{rule_p}
use Rattle.scheduler.specs.declared.scheduler.QoSScheduler.{QoSScheduler}
use Rattle.scheduler.specs.Scheduler.{abs}
use Rattle.scheduler.proofs.Arrays.{order_at}
use Rattle.scheduler.proofs.OnBands.{pick_kept, pick_none, pick_comes, pick_gives}
use Rattle.scheduler.proofs.Promises.{gives-chosen}
use Rattle.scheduler.proofs.scheduler.QoSScheduler.pick.Goals as goal

pub invariant_of-self-clause-accepted : goal.invariant_of-self-clause-accepted
invariant_of-self-clause-accepted c =
    pick_kept c.loop-band.self c.args.core c.requires
    (pick_comes c.loop-band.self c.args.core c.requires c.in-Some.ensures c.code.ensures.is (search (rules, order_at))
    c.loop-band.invariant.before c.index-queues-code.result _ (search rules) _ c.picked.ensures)

pub returns-in-Some : goal.returns-in-Some
unfolding abs
returns-in-Some c =
    pick_gives c.loop-band.self c.args.core c.requires c.in-Some.ensures c.code.ensures.is (search (rules, order_at))
    c.loop-band.invariant.before c.index-queues-code.result _ (search rules) _ c.picked.ensures
    c.args.form c.loop-band.invariant.same c.target.ensures c.answer.ensures refl

pub invariant_of-self-2-clause-accepted : goal.invariant_of-self-2-clause-accepted
invariant_of-self-2-clause-accepted c =
    pick_kept c.loop-band.self c.args.core c.requires
    (pick_none c.loop-band.self c.args.core c.requires c.loop-band.invariant.before (omega arith))

pub returns : goal.returns
unfolding abs
returns c =
    gives-chosen c.args.form
    (ap (λ (s : QoSScheduler). rule_p c.args.core (abs s)) (sym c.loop-band.invariant.same)
    ∙ pick_none c.loop-band.self c.args.core c.requires c.loop-band.invariant.before (omega arith))
    refl c.answer-2.ensures refl
