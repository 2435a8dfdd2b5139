-- Document 01, "Tick, yield, handoff, plan", with their refusals in the table's order.
use Rattle.std.specs.Prelude.{Bool, true, false, cond, not, ◌||◌, ℕ, ◌+◌, ◌%◌, ◌^◌, leb, eqb, Option, None, Some}
use Rattle.rules.specs.declared.answer.ContextSwitchPlan.{ContextSwitchPlan}
use Rattle.records.specs.declared.band.QoSClass.{QoSClass}
use Rattle.records.specs.declared.band.QoSClass.TheVariants.{UserInteractive, RealTimeIO, Background}
use Rattle.records.specs.declared.error.SchedError.TheVariants.{NoSuchTask, NotBlocked}
use Rattle.records.specs.declared.ids.Slot.{Slot}
use Rattle.records.specs.declared.state.ThreadState.{ThreadState}
use Rattle.records.specs.declared.state.ThreadState.TheVariants.{Ready, Running, Blocked, Terminated}
use Rattle.records.specs.ThreadState.{is_state}
use Rattle.records.specs.Task.{with_consumed}
use Rattle.rules.specs.declared.answer.ContextSwitchTarget.{ContextSwitchTarget}
use Rattle.rules.specs.declared.answer.ContextSwitchTarget.TheVariants.{Task, Idle}
use Rattle.rules.specs.declared.answer.Value.TheVariants as value
use Rattle.rules.specs.State.{State, none_byte, task, holder_of, with_task, with_holder, with_micros}
use Rattle.rules.specs.Outcome.{Outcome, Chosen, done, refused, and_then, chosen_as}
use Rattle.rules.specs.Picking.{waits_in, no_choice, rule_p, answer_slot}
use Rattle.rules.specs.Waking.{enqueue}

-- ---- tick

-- "System microseconds gain elapsed, past 2^64 − 1 going on from 0."
abbrev pub gain : ℕ → State → State
gain elapsed s = with_micros s ((s.micros + elapsed) % 2 ^ 64)

-- "clear it": the core has no holder
abbrev pub cleared : ℕ → State → State
cleared core s = with_holder s core none_byte

-- "a permitted entry waits in an earlier band"
abbrev pub waits_before : QoSClass → State → ℕ → Bool
waits_before UserInteractive s core = false
waits_before RealTimeIO s core = waits_in s core UserInteractive
waits_before Background s core = waits_in s core UserInteractive || waits_in s core RealTimeIO

-- "consumed gains elapsed"
abbrev pub charged : ℕ → ℕ → State → ℕ
charged h elapsed s = (task s h).consumed_slice_us + elapsed

-- "if it reaches the budget, or a permitted entry waits in an earlier band". A sum that passes 4,294,967,295 is above every budget, so there
-- the slice is over.
abbrev pub slice_over : ℕ → ℕ → ℕ → State → Bool
slice_over h elapsed core s = leb (task s h).slice_budget_us (charged h elapsed s) || waits_before (task s h).qos s core

-- "consumed becomes 0, the holder is enqueued unless Ready": an enqueue of a Ready slot is refused, and leaves the state as it was
abbrev pub requeued : ℕ → State → State
requeued h s = (enqueue h (with_task s h (with_consumed (task s h) 0))).state

-- "Else the holder is the answer."
abbrev pub stays_holder : Slot → ℕ → State → Chosen
stays_holder h elapsed s = record { next = Some h; pick = None; state = with_task s h.0 (with_consumed (task s h.0) (charged h.0 elapsed s)) }

-- "No holder: P. Holder Blocked: clear it, then P. Otherwise [..]"
abbrev pub tick_holder : Option Slot → ℕ → ℕ → State → Chosen
tick_holder None core elapsed s = rule_p core s
tick_holder (Some h) core elapsed s =
    cond (is_state (task s h.0).state Blocked) (rule_p core (cleared core s)) (
    cond (slice_over h.0 elapsed core s) (rule_p core (requeued h.0 s)) (stays_holder h elapsed s))

-- "Tick on core c, in order: c of 64 or more answers none, nothing changed."
unfoldable pub ticked : ℕ → ℕ → State → Chosen
ticked core elapsed s = cond (leb 64 core) (no_choice s) (tick_holder (holder_of s core) core elapsed (gain elapsed s))

-- 07 tick
unfoldable pub tick : ℕ → ℕ → State → Outcome
tick core elapsed s = answer_slot (ticked core elapsed s)

-- ---- plans

-- "the target: a slot with its cr3, or idle"
abbrev pub target_of : Option Slot → State → ContextSwitchTarget
target_of None s = Idle
target_of (Some n) s = Task n (task s n.0).cr3

-- "equals the previous holder, or both are none"
abbrev pub same : Option Slot → Option Slot → Bool
same None None = true
same None (Some n) = false
same (Some p) None = false
same (Some p) (Some n) = eqb p.0 n.0

-- "A plan gives the previous holder or none, and the target [..]. There is no plan when the pick (for the plan call, the tick's answer)
-- equals the previous holder, or both are none."
abbrev pub plan_to : Option Slot → Option Slot → ContextSwitchTarget → Option ContextSwitchPlan
plan_to previous next target = cond (same previous next) None (Some (record { prev_task_idx = previous; target = target }))

-- to the slot as the state has it
abbrev pub plan_of : Option Slot → Option Slot → State → Option ContextSwitchPlan
plan_of previous next s = plan_to previous next (target_of next s)

abbrev pub answer_plan : Option Slot → Chosen → Outcome
answer_plan previous c = chosen_as (value.Plan (plan_of previous c.next c.state)) c

-- "a holder that is Running is enqueued and cleared; then P"
abbrev pub yield_running : Slot → ℕ → State → Outcome
yield_running h core s = and_then (enqueue h.0 s) (λ t. answer_plan (Some h) (rule_p core (cleared core t)))

-- 3 for "its holder not Running". No holder: P, and the previous is none.
abbrev pub yield_holder : Option Slot → ℕ → State → Outcome
yield_holder None core s = answer_plan None (rule_p core s)
yield_holder (Some h) core s = cond (not (is_state (task s h.0).state Running)) (refused NoSuchTask s) (yield_running h core s)

-- 08 yield: 3 where "core 64 or above"
unfoldable pub yield : ℕ → State → Outcome
yield core s = cond (leb 64 core) (refused NoSuchTask s) (yield_holder (holder_of s core) core s)

-- "Running gives no plan; Blocked is cleared, then P"; 6 where "holder Ready". A Terminated one is not in use, so it is no holder.
abbrev pub handoff_in : ThreadState → Slot → ℕ → State → Outcome
handoff_in Running h core s = done (value.Plan None) s
handoff_in Blocked h core s = answer_plan (Some h) (rule_p core (cleared core s))
handoff_in Ready h core s = refused NotBlocked s
handoff_in Terminated h core s = refused NoSuchTask s

-- 3 where there is "no holder"
abbrev pub handoff_holder : Option Slot → ℕ → State → Outcome
handoff_holder None core s = refused NoSuchTask s
handoff_holder (Some h) core s = handoff_in (task s h.0).state h core s

-- 09 handoff: 3 where "core 64 or above"
unfoldable pub handoff : ℕ → State → Outcome
handoff core s = cond (leb 64 core) (refused NoSuchTask s) (handoff_holder (holder_of s core) core s)

-- 0a plan: "Plan runs the tick; for c of 64 and above it gives no plan."
unfoldable pub planned : ℕ → ℕ → State → Outcome
planned core elapsed s = cond (leb 64 core) (done (value.Plan None) s) (answer_plan (holder_of s core) (ticked core elapsed s))
