-- `plan_voluntary_yield_on_cpu` meets its contract: the laws of `OnCores` say what the yield comes to on each way. Assumes nothing.
use Rattle.scheduler.specs.Scheduler.{abs}
use Rattle.scheduler.proofs.OnCores.{yield_past, yield_none, yield_other, yield_pushed, yield_kept, yield_comes}
use Rattle.scheduler.proofs.Promises.{meets_given, meets_refused}
use Rattle.scheduler.proofs.scheduler.QoSScheduler.plan_voluntary_yield_on_cpu.Goals as goal

pub returns-then-core-ge-MAX_CPUS : goal.returns-then-core-ge-MAX_CPUS
returns-then-core-ge-MAX_CPUS c = meets_refused c.refused.ensures (yield_past c.args.self c.args.core c.if-core-ge-MAX_CPUS.true)

pub returns-in_default : goal.returns-in_default
unfolding abs
returns-in_default c =
    meets_given c.pick.ensures (yield_none c.args.self c.args.core c.if-core-ge-MAX_CPUS.false c.in_default.ensures.holder)

pub returns-then-ne : goal.returns-then-ne
unfolding abs
returns-then-ne c =
    meets_refused c.refused-then-ne.ensures (yield_other c.args.self c.args.core c.if-core-ge-MAX_CPUS.false c.in-Some.ensures.holder _ c.if-ne.ensures)

pub unwrap-requires : goal.unwrap-requires
unfolding abs
unwrap-requires c =
    yield_pushed c.args.self c.args.core c.if-core-ge-MAX_CPUS.false c.in-Some.ensures.holder _ c.if-ne.ensures c.code.ensures _ c.push.ensures

pub invariant_of-self-clause-accepted : goal.invariant_of-self-clause-accepted
unfolding abs
invariant_of-self-clause-accepted c =
    yield_kept c.args.self c.args.core c.if-core-ge-MAX_CPUS.false c.in-Some.ensures.holder _ c.if-ne.ensures
    c.code.ensures _ c.push.ensures c.with_state.ensures

pub returns : goal.returns
unfolding abs
returns c =
    meets_given c.pick-2.ensures
    (yield_comes c.args.self c.args.core c.if-core-ge-MAX_CPUS.false c.in-Some.ensures.holder _ c.if-ne.ensures
    c.code.ensures _ c.push.ensures c.with_state.ensures)
