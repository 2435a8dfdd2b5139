-- `ticked` meets its contract: the laws of `OnCores` say what the tick comes to on each way. Assumes nothing.
use Rattle.std.proofs.Common.{◌≡◌, arith, sym, refl, ap, ◌∙◌}
use Rattle.std.specs.Prelude.{Some}
use Rattle.rules.specs.State.{holder_of}
use Rattle.scheduler.specs.Private.{form_of}
use Rattle.scheduler.specs.Scheduler.{abs}
use Rattle.scheduler.proofs.OnCores.{tick_past, ticked_kept, later_kept, later_cleared_kept, tick_none, tick_blocked, consumed_small, consumed_fits, budget_fits, charged_fits, tick_stays, tick_stays_gives, Over, over_used, over_waits, spared_kept, tick_spared, sent_back_pushed, sent_back_kept, tick_over}
use Rattle.scheduler.proofs.Promises.{gives_as, gives_told}
use Rattle.scheduler.proofs.scheduler.QoSScheduler.ticked.Goals as goal
use Rattle.scheduler.proofs.scheduler.QoSScheduler.ticked.Goals.{After-eq-2, else-charged-task-via-then-charged-task+else-not-waits_before, else-charged-task-via-else-charged-task}

pub returns-then-core-ge-MAX_CPUS : goal.returns-then-core-ge-MAX_CPUS
unfolding abs
returns-then-core-ge-MAX_CPUS c =
    gives_as (c.of-form.ensures ∙ ap (form_of c.args.planned) c.holder_on-holder.ensures.holder) refl
    (gives_told c.of-form.result c.args.self (tick_past c.args.self c.args.core c.if-core-ge-MAX_CPUS.true c.args.elapsed_us)
    c.who_runs.ensures c.told.ensures refl)

pub invariant_of-self-in_default-clause-accepted : goal.invariant_of-self-in_default-clause-accepted
unfolding abs
invariant_of-self-in_default-clause-accepted c = later_kept c.args.self c.args.core c.if-core-ge-MAX_CPUS.false c.args.elapsed_us

pub returns-in_default : goal.returns-in_default
unfolding abs
returns-in_default c =
    gives_as (c.of-form.ensures ∙ ap (form_of c.args.planned) c.holder_on-holder.ensures.holder)
    (sym (tick_none c.args.self c.args.core c.if-core-ge-MAX_CPUS.false c.in_default.ensures.holder c.args.elapsed_us)) c.pick.ensures

pub invariant_of-self-then-eq-clause-accepted : goal.invariant_of-self-then-eq-clause-accepted
unfolding abs
invariant_of-self-then-eq-clause-accepted c = later_cleared_kept c.args.self c.args.core c.if-core-ge-MAX_CPUS.false c.args.elapsed_us

pub returns-then-eq : goal.returns-then-eq
unfolding abs
returns-then-eq c =
    gives_as (c.of-form.ensures ∙ ap (form_of c.args.planned) c.holder_on-holder.ensures.holder)
    (sym (tick_blocked c.args.self c.args.core c.if-core-ge-MAX_CPUS.false c.in-Some.ensures.holder _ c.args.elapsed_us c.if-eq.ensures))
    c.pick-then-eq.ensures

pub overflow_cast-charged : goal.overflow_cast-charged
unfolding abs
overflow_cast-charged c = consumed_fits c.args.self c.args.core c.if-core-ge-MAX_CPUS.false c.in-Some.ensures.holder _

pub overflow_add-charged : goal.overflow_add-charged
unfolding abs
overflow_add-charged c = omega (arith, consumed_small c.args.self c.args.core c.if-core-ge-MAX_CPUS.false c.in-Some.ensures.holder)

pub overflow_cast-task : goal.overflow_cast-task
unfolding abs
overflow_cast-task c = budget_fits c.args.self c.args.core c.if-core-ge-MAX_CPUS.false c.in-Some.ensures.holder _

pub invariant_of-self-then-charged-task-clause-accepted : goal.invariant_of-self-then-charged-task-clause-accepted
unfolding abs
invariant_of-self-then-charged-task-clause-accepted c = later_kept c.args.self c.args.core c.if-core-ge-MAX_CPUS.false c.args.elapsed_us

pub overflow_cast-charged-then-not-waits_before : goal.overflow_cast-charged-then-not-waits_before
unfolding abs
overflow_cast-charged-then-not-waits_before c =
    charged_fits c.args.self c.args.core c.if-core-ge-MAX_CPUS.false c.in-Some.ensures.holder _ _ c.if-charged-task.true

pub invariant_of-self-then-not-waits_before-clause-accepted : goal.invariant_of-self-then-not-waits_before-clause-accepted
unfolding abs
invariant_of-self-then-not-waits_before-clause-accepted c =
    ticked_kept c.args.self c.args.core c.if-core-ge-MAX_CPUS.false c.args.elapsed_us
    (tick_stays c.args.self c.args.core c.if-core-ge-MAX_CPUS.false c.in-Some.ensures.holder _ c.args.elapsed_us c.if-eq.ensures c.if-charged-task.true
    c.if-not-waits_before.ensures c.with_consumed.ensures)

pub returns-then-not-waits_before : goal.returns-then-not-waits_before
unfolding abs
returns-then-not-waits_before c =
    gives_as (c.of-form.ensures ∙ ap (form_of c.args.planned) c.holder_on-holder.ensures.holder) refl
    (tick_stays_gives c.args.self c.args.core c.if-core-ge-MAX_CPUS.false c.in-Some.ensures.holder _ c.args.elapsed_us c.if-eq.ensures
    c.if-charged-task.true c.if-not-waits_before.ensures c.with_consumed.ensures c.of-form.result c.target.ensures c.answer.ensures refl)

-- the slice is over, on either way there
over : (c : After-eq-2) (some : Some c.in-Some.slot ≡ holder_of (abs c.args.self) c.args.core) →
    Over c.args.self c.args.core c.if-core-ge-MAX_CPUS.false some _ c.args.elapsed_us c.if-eq.ensures c.else-charged-task.self
unfolding abs
over c some = elim c.else-charged-task.branch [
  | else-charged-task-via-then-charged-task+else-not-waits_before w ↦ over_waits _ _ _ _ _ _ _ w.self-is w.if-not-waits_before.ensures
  | else-charged-task-via-else-charged-task w ↦ over_used _ _ _ _ _ _ _ w.self-is w.if-charged-task.false
]

pub invariant_of-self-then-eq-2-clause-accepted : goal.invariant_of-self-then-eq-2-clause-accepted
unfolding abs
invariant_of-self-then-eq-2-clause-accepted c =
    spared_kept c.args.self c.args.core c.if-core-ge-MAX_CPUS.false c.in-Some.ensures.holder _ c.args.elapsed_us c.if-eq.ensures
    c.else-charged-task.self
    (over (goal.at.invariant_of-self-then-eq-2-clause-accepted c).After-eq-2 c.in-Some.ensures.holder)
    c.if-eq-2.ensures c.with_consumed-then-eq-2.ensures

pub returns-then-eq-2 : goal.returns-then-eq-2
unfolding abs
returns-then-eq-2 c =
    gives_as (c.of-form.ensures ∙ ap (form_of c.args.planned) c.holder_on-holder.ensures.holder)
    (sym (tick_spared c.args.self c.args.core c.if-core-ge-MAX_CPUS.false c.in-Some.ensures.holder _ c.args.elapsed_us c.if-eq.ensures
    c.else-charged-task.self
    (over (goal.at.returns-then-eq-2 c).After-eq-2 c.in-Some.ensures.holder)
    c.if-eq-2.ensures c.with_consumed-then-eq-2.ensures)) c.pick-then-eq-2.ensures

pub unwrap-requires : goal.unwrap-requires
unfolding abs
unwrap-requires c =
    sent_back_pushed c.args.self c.args.core c.if-core-ge-MAX_CPUS.false c.in-Some.ensures.holder _ c.args.elapsed_us c.if-eq.ensures
    c.else-charged-task.self (over (goal.at.unwrap-requires c).After-eq-2 c.in-Some.ensures.holder) c.if-eq-2.ensures c.code.ensures _ c.push.ensures

pub invariant_of-self-2-clause-accepted : goal.invariant_of-self-2-clause-accepted
unfolding abs
invariant_of-self-2-clause-accepted c =
    sent_back_kept c.args.self c.args.core c.if-core-ge-MAX_CPUS.false c.in-Some.ensures.holder _ c.args.elapsed_us c.if-eq.ensures
    c.else-charged-task.self
    (over (goal.at.invariant_of-self-2-clause-accepted c).After-eq-2 c.in-Some.ensures.holder)
    c.if-eq-2.ensures c.code.ensures _ c.push.ensures c.with_consumed-2.ensures c.with_state.ensures

pub returns : goal.returns
unfolding abs
returns c =
    gives_as (c.of-form.ensures ∙ ap (form_of c.args.planned) c.holder_on-holder.ensures.holder)
    (sym (tick_over c.args.self c.args.core c.if-core-ge-MAX_CPUS.false c.in-Some.ensures.holder _ c.args.elapsed_us c.if-eq.ensures
    c.else-charged-task.self
    (over (goal.at.returns c).After-eq-2 c.in-Some.ensures.holder)
    c.if-eq-2.ensures c.code.ensures _ c.push.ensures c.with_consumed-2.ensures c.with_state.ensures)) c.pick-2.ensures
