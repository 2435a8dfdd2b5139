-- Document 01's calls and queries as one: what a call makes of a state, and what a list of calls makes of it.
use Rattle.std.specs.Prelude.{List, [], ◌∷◌}
use Rattle.rules.specs.declared.call.Call.{Call}
use Rattle.rules.specs.declared.call.Call.TheVariants.{Create, Affinity, Terminate, Block, Wake, Enqueue, Schedule, Tick, Yield, Handoff, Plan, CanRunOnCore, TaskIndexForTid, Task, CurrentTaskOnCpu, SystemTicksUs, Holder}
use Rattle.rules.specs.declared.answer.Value.TheVariants as value
use Rattle.rules.specs.State.{State}
use Rattle.rules.specs.Outcome.{Outcome, done}
use Rattle.rules.specs.Picking.{schedule}
use Rattle.rules.specs.Waking.{create, affinity, terminate, block, wake, enqueue}
use Rattle.rules.specs.Ticking.{tick, yield, handoff, planned}
use Rattle.rules.specs.Queries.{can_run_on_core, task_index_for_tid, task_at, current_task_on_cpu, core_of}

abbrev pub step : Call → State → Outcome
step (Create tid band context cr3 rsp0) s = create tid band context cr3 rsp0 s
step (Affinity slot mask) s = affinity slot.0 mask s
step (Terminate slot) s = terminate slot.0 s
step (Block slot) s = block slot.0 s
step (Wake slot) s = wake slot.0 s
step (Enqueue slot) s = enqueue slot.0 s
step (Schedule core) s = schedule core s
step (Tick core elapsed) s = tick core elapsed s
step (Yield core) s = yield core s
step (Handoff core) s = handoff core s
step (Plan core elapsed) s = planned core elapsed s
step (CanRunOnCore slot core) s = done (value.Flag (can_run_on_core slot.0 core s)) s
step (TaskIndexForTid tid) s = done (value.Slot (task_index_for_tid tid.0 s)) s
step (Task slot) s = done (value.Task (task_at slot.0 s)) s
step (CurrentTaskOnCpu core) s = done (value.Task (current_task_on_cpu core s)) s
step SystemTicksUs s = done (value.Micros s.micros) s
step (Holder slot) s = done (value.Core (core_of slot.0 s)) s

-- "each call gets the state that the one before returned or left"
unfoldable pub run : List Call → State → State
run [] s = s
run (call ∷ calls) s = run calls (step call s).state
