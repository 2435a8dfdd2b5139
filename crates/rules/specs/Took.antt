-- What P takes in a call: whether the call reaches P, from which state and on which core. Written from document 01's sentences on the five
-- calls that name a core, beside those calls' own rules; of these only P itself and the small changes are used here (an enqueue, a cleared
-- holder, the microseconds). proofs/Calls.antt shows that the two agree in every accepted state.
use Rattle.std.specs.Prelude.{◌≡◌, Bool, cond, ◌&&◌, ◌||◌, ℕ, ◌+◌, ltb, leb, Option, None, Some}
use Rattle.rules.specs.declared.answer.Pick.{Pick}
use Rattle.records.specs.declared.ids.Slot.{Slot}
use Rattle.records.specs.declared.band.QoSClass.{QoSClass}
use Rattle.records.specs.declared.state.ThreadState.TheVariants.{Ready, Running, Blocked}
use Rattle.records.specs.Band.{band_code}
use Rattle.records.specs.Mask.{permits}
use Rattle.records.specs.ThreadState.{is_state}
use Rattle.records.specs.Task.{with_consumed}
use Rattle.records.specs.Lists.{any_of}
use Rattle.rules.specs.declared.call.Call.{Call}
use Rattle.rules.specs.declared.call.Call.TheVariants.{Create, Affinity, Terminate, Block, Wake, Enqueue, Schedule, Tick, Yield, Handoff, Plan, CanRunOnCore, TaskIndexForTid, Task, CurrentTaskOnCpu, SystemTicksUs, Holder}
use Rattle.rules.specs.State.{State, band_order, task, queue, holder_of, with_task}
use Rattle.rules.specs.Outcome.{Outcome}
use Rattle.rules.specs.Picking.{rule_p}
use Rattle.rules.specs.Waking.{enqueued}
use Rattle.rules.specs.Ticking.{gain, cleared}

pub data Reach : Type 0 where
  -- the call does not come to P
  unreached : Reach
  -- it comes to P from this state, on this core
  reaches : State → ℕ → Reach

-- "Rule P, core c below 64"
abbrev pub below : ℕ → Reach → Reach
below core r = cond (leb 64 core) unreached r

-- "a permitted entry waits in an earlier band"
abbrev pub earlier_waits : QoSClass → State → ℕ → Bool
earlier_waits band s core = any_of (λ b. ltb (band_code b) (band_code band) && any_of (λ slot. permits (task s slot).cpu_affinity core) (queue s b)) band_order

-- "consumed gains elapsed; if it reaches the budget, or a permitted entry waits in an earlier band"
abbrev pub switches : ℕ → ℕ → ℕ → State → Bool
switches h elapsed core s = leb (task s h).slice_budget_us ((task s h).consumed_slice_us + elapsed) || earlier_waits (task s h).qos s core

-- "consumed becomes 0, the holder is enqueued unless Ready"
abbrev pub back_to_queue : ℕ → State → State
back_to_queue h s = cond (is_state (task s h).state Ready) s (enqueued h s)

abbrev pub out_of_slice : ℕ → State → State
out_of_slice h s = back_to_queue h (with_task s h (with_consumed (task s h) 0))

-- "No holder: P. Holder Blocked: clear it, then P. Otherwise [..] if it reaches the budget, or a permitted entry waits in an earlier band,
-- [..] then P. Else the holder is the answer."
abbrev pub tick_reach : Option Slot → ℕ → ℕ → State → Reach
tick_reach None core elapsed s = reaches s core
tick_reach (Some h) core elapsed s =
    cond (is_state (task s h.0).state Blocked) (reaches (cleared core s) core) (
    cond (switches h.0 elapsed core s) (reaches (out_of_slice h.0 s) core) unreached)

-- "a holder that is Running is enqueued and cleared; then P"
abbrev pub yield_reach : Option Slot → ℕ → State → Reach
yield_reach None core s = reaches s core
yield_reach (Some h) core s = cond (is_state (task s h.0).state Running) (reaches (cleared core (enqueued h.0 s)) core) unreached

-- "Blocked is cleared, then P"
abbrev pub handoff_reach : Option Slot → ℕ → State → Reach
handoff_reach None core s = unreached
handoff_reach (Some h) core s = cond (is_state (task s h.0).state Blocked) (reaches (cleared core s) core) unreached

-- schedule is P; plan runs the tick; no call that names no core comes to P, and no query does
unfoldable pub reach : Call → State → Reach
reach (Schedule core) s = below core (reaches s core)
reach (Tick core elapsed) s = below core (tick_reach (holder_of s core) core elapsed (gain elapsed s))
reach (Yield core) s = below core (yield_reach (holder_of s core) core s)
reach (Handoff core) s = below core (handoff_reach (holder_of s core) core s)
reach (Plan core elapsed) s = below core (tick_reach (holder_of s core) core elapsed (gain elapsed s))
reach (Create tid band context cr3 rsp0) s = unreached
reach (Affinity slot mask) s = unreached
reach (Terminate slot) s = unreached
reach (Block slot) s = unreached
reach (Wake slot) s = unreached
reach (Enqueue slot) s = unreached
reach (CanRunOnCore slot core) s = unreached
reach (TaskIndexForTid tid) s = unreached
reach (Task slot) s = unreached
reach (CurrentTaskOnCpu core) s = unreached
reach SystemTicksUs s = unreached
reach (Holder slot) s = unreached

-- "A pick is what P takes in a call, at most one a call"
abbrev pub taken_by : Reach → Option Pick
taken_by unreached = None
taken_by (reaches s core) = (rule_p core s).pick

abbrev pub took : Call → State → Option Pick
took call s = taken_by (reach call s)

-- what an outcome has of P: "the answer carries exactly that pick, or none"
pub record Carries (call : Call) (s : State) (o : Outcome) : Type 0 where
  pub pick_is : o.answer.pick ≡ took call s
  -- where P is reached, the state is the one that P leaves
  pub state_is : (t : State) (core : ℕ) → reach call s ≡ reaches t core → o.state ≡ (rule_p core t).state
