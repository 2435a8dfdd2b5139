-- `plan_blocked_current_handoff_on_cpu` meets its contract: the laws of `OnCores` say what the handoff comes to on each way. Assumes nothing.
use Rattle.scheduler.specs.Scheduler.{abs}
use Rattle.scheduler.proofs.OnCores.{handoff_past, handoff_none, handoff_running, handoff_blocked, handoff_ready, handoff_terminated, cleared_kept}
use Rattle.scheduler.proofs.Promises.{meets_given, meets_told, meets_refused}
use Rattle.scheduler.proofs.scheduler.QoSScheduler.plan_blocked_current_handoff_on_cpu.Goals as goal

pub returns-then-core-ge-MAX_CPUS : goal.returns-then-core-ge-MAX_CPUS
returns-then-core-ge-MAX_CPUS c = meets_refused c.refused.ensures (handoff_past c.args.self c.args.core c.if-core-ge-MAX_CPUS.true)

pub returns-in_default : goal.returns-in_default
unfolding abs
returns-in_default c =
    meets_refused c.refused-in_default.ensures (handoff_none c.args.self c.args.core c.if-core-ge-MAX_CPUS.false c.in_default.ensures.holder)

pub invariant_of-self-clause-accepted : goal.invariant_of-self-clause-accepted
unfolding abs
invariant_of-self-clause-accepted c = cleared_kept c.args.self c.args.core c.if-core-ge-MAX_CPUS.false

pub returns-in-Running : goal.returns-in-Running
unfolding abs
returns-in-Running c =
    meets_told c.told.ensures (handoff_running c.args.self c.args.core c.if-core-ge-MAX_CPUS.false c.in-Some.ensures.holder _ c.in-Running.is)

pub returns-in-Blocked : goal.returns-in-Blocked
unfolding abs
returns-in-Blocked c =
    meets_given c.pick.ensures (handoff_blocked c.args.self c.args.core c.if-core-ge-MAX_CPUS.false c.in-Some.ensures.holder _ c.in-Blocked.is)

pub returns-in-Ready : goal.returns-in-Ready
unfolding abs
returns-in-Ready c =
    meets_refused c.refused-in-Ready.ensures (handoff_ready c.args.self c.args.core c.if-core-ge-MAX_CPUS.false c.in-Some.ensures.holder _ c.in-Ready.is)

pub returns-in-Terminated : goal.returns-in-Terminated
unfolding abs
returns-in-Terminated c =
    meets_refused c.refused-in-Terminated.ensures
    (handoff_terminated c.args.self c.args.core c.if-core-ge-MAX_CPUS.false c.in-Some.ensures.holder _ c.in-Terminated.is)
