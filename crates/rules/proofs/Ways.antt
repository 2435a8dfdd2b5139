-- The ways out of a call: each call's rule is followed here, once, and so is P; every call takes one of the ways (`way`), with what is known of it there.
-- What is said of all calls goes by cases on them: Course, Refusals, Elsewhere, and the laws of frames about numbers that fit. A way may stand for more
-- outcomes than its call has; that the outcome is the rule's is `way`'s own statement. Nothing is presumed of the state, so two ways are here that no
-- accepted state has: a full queue, and a holder that is not in use. Assumes nothing.
use mathlib.Core.Path.{◌≡◌, refl, sym, ap, subst, ◌∙◌}
use mathlib.Core.Bool.{Bool, true, false, cond, not, true≢false}
use Prim.Native.Nat.{ℕ, ◌<◌}
use native.Mathlib.Omega.{arith}
use borrow.Author.Tests.{leb-false, not-false}
use lib.Dec.{leb}
use Rattle.std.specs.Prelude.{Option, None, Some}
use Rattle.records.specs.declared.band.QoSClass.{QoSClass}
use Rattle.records.specs.declared.error.SchedError.{SchedError}
use Rattle.records.specs.declared.error.SchedError.TheVariants.{TableFull, QueueFull, NoSuchTask, AlreadyReady, AlreadyBlocked, NotBlocked}
use Rattle.records.specs.declared.ids.Slot.{Slot}
use Rattle.records.specs.declared.ids.Tid.{Tid}
use Rattle.records.specs.declared.state.ThreadState.{ThreadState}
use Rattle.records.specs.declared.state.ThreadState.TheVariants.{Ready, Running, Blocked, Terminated}
use Rattle.records.specs.Error.{error_code}
use Rattle.records.specs.Lists.{first_place}
use Rattle.records.specs.Mask.{stored_mask}
use Rattle.records.specs.Task.{created, with_state, with_mask, with_consumed, blocked}
use Rattle.records.specs.ThreadState.{is_state}
use Rattle.records.proofs.Cases.{split, by_if}
use Rattle.queue.specs.Entries.{full}
use Rattle.rules.specs.declared.answer.Pick.{Pick}
use Rattle.rules.specs.declared.answer.Value.{Value}
use Rattle.rules.specs.declared.answer.Value.TheVariants as value
use Rattle.rules.specs.declared.call.Call.{Call}
use Rattle.rules.specs.declared.call.Call.TheVariants.{Create, Affinity, Terminate, Block, Wake, Enqueue, Schedule, Tick, Yield, Handoff, Plan, CanRunOnCore, TaskIndexForTid, Task, CurrentTaskOnCpu, SystemTicksUs, Holder}
use Rattle.rules.specs.Outcome.{Outcome, Chosen, done, refused, and_then, chosen_as}
use Rattle.rules.specs.Picking.{choice, after_pick, no_choice, rule_p, answer_slot, schedule}
use Rattle.rules.specs.Queries.{can_run_on_core, slot_below, has_tid, task_index_for_tid, task_at, current_task_on_cpu, core_of}
use Rattle.rules.specs.State.{State, band_order, task, queue, holder, holder_of, with_task}
use Rattle.rules.specs.Step.{step}
use Rattle.rules.specs.Stretch.{names, concern}
use Rattle.rules.specs.Ticking.{gain, cleared, slice_over, requeued, stays_holder, tick_holder, ticked, tick, plan_of, answer_plan, yield_running, yield_holder, yield, handoff_in, handoff_holder, handoff, planned}
use Rattle.rules.specs.Took.{Reach, unreached, reaches, out_of_slice, tick_reach, yield_reach, handoff_reach, reach}
use Rattle.rules.specs.Touched.{named_slot}
use Rattle.rules.specs.Waking.{free_slot, create, affinity, out_of_queues, after_terminate, terminate, missing, block, enqueued, enqueue, is_held, wake}
use Rattle.rules.proofs.Effects.{switches-is, idle_in, held-slot}
use Rattle.rules.proofs.Picks.{P-below}

-- ---- how a call ends

-- who is to run is told as the slot, or as a plan from the previous holder
pub data Telling : Type 0 where
  by_slot : Telling
  plan_telling : Telling

abbrev pub telling_of : Telling → Option Slot → Chosen → Value
telling_of by_slot previous c = value.Slot c.next
telling_of plan_telling previous c = value.Plan (plan_of previous c.next c.state)

abbrev pub told_as : Telling → Option Slot → Chosen → Outcome
told_as how previous c = chosen_as (telling_of how previous c) c

-- refused with this number
pub data Refusal (s : State) : SchedError → Reach → Type 0 where
  -- 1 and 3 to 6
  by_table : {e : SchedError} → (error_code e ≡ 2 → ⊥) → Refusal s e unreached
  -- 2: a slot to be queued, and its queue is full
  by_full_queue : {r : Reach} (i : ℕ) → missing s i ≡ false → is_state (task s i).state Ready ≡ false → full (queue s (task s i).qos) ≡ true →
      Refusal s QueueFull r
  -- 3: a holder that is not in use
  by_free_holder : {r : Reach} (c : ℕ) (h : Slot) → holder_of s c ≡ Some h → missing s h.0 ≡ true → Refusal s NoSuchTask r

-- a value that tells of the state, or of nothing
pub data Tells (s : State) : Value → Type 0 where
  nobody : Tells s (value.Slot None)
  no_plan : Tells s (value.Plan None)
  a_flag : (b : Bool) → Tells s (value.Flag b)
  a_slot : (n : ℕ) → Tells s (value.Slot (slot_below n))
  a_core : (i : ℕ) → Tells s (value.Core (core_of i s))
  a_record : (i : ℕ) → Tells s (value.Task (task_at i s))
  a_holder : (c : ℕ) → Tells s (value.Task (current_task_on_cpu c s))
  the_time : Tells s (value.Micros s.micros)

-- what a call on a slot does, the value that it is answered with, and the state then
pub data Deed (s : State) : Call → Value → State → Type 0 where
  by_create : (tid : Tid) (band : QoSClass) (context cr3 rsp0 : ℕ) → free_slot s < 64 →
      Deed s (Create tid band context cr3 rsp0) (value.Slot (Some (record { 0 = free_slot s })))
      (with_task s (free_slot s) (created tid band context cr3 rsp0))
  by_affinity : (i : Slot) (mask : ℕ) → i.0 < 64 →
      Deed s (Affinity i mask) value.Nothing (with_task s i.0 (with_mask (task s i.0) (stored_mask mask)))
  by_terminate : (i : Slot) → i.0 < 64 → Deed s (Terminate i) value.Nothing (after_terminate i.0 s)
  by_block : (i : Slot) → missing s i.0 ≡ false → is_state (task s i.0).state Blocked ≡ false →
      Deed s (Block i) value.Nothing (with_task (out_of_queues i.0 s) i.0 (blocked (task s i.0)))
  -- a wake of a slot that some core holds
  by_wake : (i : Slot) → missing s i.0 ≡ false → is_state (task s i.0).state Blocked ≡ true → is_held s i.0 ≡ true →
      Deed s (Wake i) value.Nothing (with_task s i.0 (with_state (task s i.0) Running))
  -- an enqueue, and a wake of a slot that no core holds
  by_queueing : {call : Call} (i : ℕ) → named_slot call s ≡ i → missing s i ≡ false → is_state (task s i).state Ready ≡ false →
      Deed s call value.Nothing (enqueued i s)

-- as it was, or with time gone by
pub data Timed (s : State) : State → Type 0 where
  at_once : Timed s s
  later : (elapsed : ℕ) → Timed s (gain elapsed s)

-- what is done on a core before P: the state that P finds, and the same in the words of Took
pub data Approach (s : State) (call : Call) (c : ℕ) : State → State → Type 0 where
  -- nothing: a schedule, or a core without a holder
  straight : {u : State} → Timed s u → Approach s call c u u
  -- a Blocked holder is cleared
  clearing : {u : State} → Timed s u → (h : Slot) → holder_of s c ≡ Some h → is_state (task s h.0).state Blocked ≡ true →
      Approach s call c (cleared c u) (cleared c u)
  -- the slice of a holder that is not Blocked is over
  slice_ends : (elapsed : ℕ) (h : Slot) → holder_of s c ≡ Some h → named_slot call s ≡ h.0 → is_state (task s h.0).state Blocked ≡ false →
      slice_over h.0 elapsed c (gain elapsed s) ≡ true →
      Approach s call c (requeued h.0 (gain elapsed s)) (out_of_slice h.0 (gain elapsed s))
  -- a Running holder yields
  yielding : (h : Slot) → holder_of s c ≡ Some h → named_slot call s ≡ h.0 → is_state (task s h.0).state Running ≡ true →
      Approach s call c (cleared c (enqueued h.0 s)) (cleared c (enqueued h.0 s))

pub data Way (s : State) : Call → Outcome → Reach → Type 0 where
  -- it is refused, and nothing is changed
  refuses : {call : Call} {r : Reach} (e : SchedError) → Refusal s e r → Way s call (refused e s) r
  -- it is answered, and nothing is changed
  tells : {call : Call} (v : Value) → Tells s v → Way s call (done v s) unreached
  -- something is done to a slot
  does : {call : Call} (v : Value) (t : State) → Deed s call v t → Way s call (done v t) unreached
  -- a tick's holder, which is not Blocked, is charged, and stays
  keeps : {call : Call} (how : Telling) (c elapsed : ℕ) (h : Slot) → c < 64 → holder_of s c ≡ Some h → named_slot call s ≡ h.0 →
      is_state (task s h.0).state Blocked ≡ false → slice_over h.0 elapsed c (gain elapsed s) ≡ false →
      Way s call (told_as how (Some h) (stays_holder h elapsed (gain elapsed s))) unreached
  -- it comes to P, on the core that it names
  comes : {call : Call} (how : Telling) (previous : Option Slot) (c : ℕ) (t u : State) → c < 64 → concern call ≡ names c → holder_of s c ≡ previous →
      Approach s call c t u → Way s call (told_as how previous (rule_p c t)) (reaches u c)

-- ---- P, and a holder's way back to its queue

-- on a core below 64 P takes somebody, or nobody
pub data PEnd (s : State) (c : ℕ) : Chosen → Type 0 where
  picks_one : (p : Pick) → PEnd s c (after_pick s c (Some p))
  picks_none : PEnd s c (after_pick s c None)

pub P-way : (s : State) (c : ℕ) → c < 64 → PEnd s c (rule_p c s)
P-way s c low = subst (PEnd s c) (sym (P-below s c low)) (by_choice (choice s c band_order))
  where
    by_choice : (o : Option Pick) → PEnd s c (after_pick s c o)
    by_choice (Some p) = picks_one p
    by_choice None = picks_none

-- a holder whose slice is over has consumed nothing then, and is queued unless its enqueue is refused
pub data Requeued (i : ℕ) (s : State) : State → Type 0 where
  queued : Requeued i s (enqueued i s)
  not_queued : Requeued i s s

pub requeued_way : (i : ℕ) (s : State) → Requeued i (with_task s i (with_consumed (task s i) 0)) (requeued i s)
unfolding enqueue
requeued_way i s =
    let t : State = with_task s i (with_consumed (task s i) 0) in
    let Ends : Outcome → Type 0 = λ (o : Outcome). Requeued i t o.state in
    by_if Ends (missing t i) (λ _. not_queued) (λ _.
    by_if Ends (is_state (task t i).state Ready) (λ _. not_queued) (λ _.
    by_if Ends (full (queue t (task t i).qos)) (λ _. not_queued) (λ _. queued)))

-- ---- calls on slots

-- a way that does not come to P
abbrev Quiet : State → Call → Outcome → Type 0
Quiet s call o = Way s call o unreached

module _ (s : State) {call : Call} where
  refuse : (e : SchedError) → (error_code e ≡ 2 → ⊥) → Quiet s call (refused e s)
  refuse e other = refuses e (by_table other)

  no_task : Quiet s call (refused NoSuchTask s)
  no_task = refuse NoSuchTask (λ n. omega arith)

  enqueue_way : (i : ℕ) → named_slot call s ≡ i → Quiet s call (enqueue i s)
  unfolding enqueue
  enqueue_way i named =
      by_if (Quiet s call) (missing s i) (λ _. no_task) (λ here.
      by_if (Quiet s call) (is_state (task s i).state Ready) (λ _. refuse AlreadyReady (λ n. omega arith)) (λ idle.
      by_if (Quiet s call) (full (queue s (task s i).qos)) (λ none_left. refuses QueueFull (by_full_queue i here idle none_left)) (λ _.
      does value.Nothing (enqueued i s) (by_queueing i named here idle))))

module _ (s : State) where
  create_way : (tid : Tid) (band : QoSClass) (context cr3 rsp0 : ℕ) → Quiet s (Create tid band context cr3 rsp0) (create tid band context cr3 rsp0 s)
  unfolding create
  create_way tid band context cr3 rsp0 =
      by_if (Quiet s (Create tid band context cr3 rsp0)) (leb 64 (free_slot s)) (λ _. refuse s TableFull (λ n. omega arith)) (λ low.
      does _ _ (by_create tid band context cr3 rsp0 (leb-false 64 (free_slot s) low)))

  affinity_way : (i : Slot) (mask : ℕ) → Quiet s (Affinity i mask) (affinity i.0 mask s)
  unfolding affinity
  affinity_way i mask = by_if (Quiet s (Affinity i mask)) (leb 64 i.0) (λ _. no_task s) (λ low. does _ _ (by_affinity i mask (leb-false 64 i.0 low)))

  terminate_way : (i : Slot) → Quiet s (Terminate i) (terminate i.0 s)
  unfolding terminate
  terminate_way i = by_if (Quiet s (Terminate i)) (leb 64 i.0) (λ _. no_task s) (λ low. does _ _ (by_terminate i (leb-false 64 i.0 low)))

  block_way : (i : Slot) → Quiet s (Block i) (block i.0 s)
  unfolding block
  block_way i =
      by_if (Quiet s (Block i)) (missing s i.0) (λ _. no_task s) (λ here.
      by_if (Quiet s (Block i)) (is_state (task s i.0).state Blocked) (λ _. refuse s AlreadyBlocked (λ n. omega arith)) (λ awake.
      does _ _ (by_block i here awake)))

  wake_way : (i : Slot) → Quiet s (Wake i) (wake i.0 s)
  unfolding wake
  wake_way i =
      let is-blocked : Bool = is_state (task s i.0).state Blocked in
      by_if (Quiet s (Wake i)) (missing s i.0) (λ _. no_task s) (λ here.
      by_if (Quiet s (Wake i)) (not is-blocked) (λ _. refuse s NotBlocked (λ n. omega arith)) (λ was.
      by_if (Quiet s (Wake i)) (is_held s i.0) (λ held. does _ _ (by_wake i here (not-false is-blocked was) held)) (λ _. enqueue_way s i.0 refl)))

-- ---- calls on cores below 64

module _ (s : State) (call : Call) (c : ℕ) (low : c < 64) (on-it : concern call ≡ names c) (of-holder : named_slot call s ≡ holder s c) where
  -- the slot that the call is about
  named : (h : Slot) → holder_of s c ≡ Some h → named_slot call s ≡ h.0
  named h is = of-holder ∙ (held-slot s c h is).0

  tick_way : (how : Telling) (elapsed : ℕ) (h : Option Slot) → holder_of s c ≡ h →
      Way s call (told_as how h (tick_holder h c elapsed (gain elapsed s))) (tick_reach h c elapsed (gain elapsed s))
  tick_way how elapsed None is = comes how None c _ _ low on-it is (straight (later elapsed))
  tick_way how elapsed (Some h) is =
      let u : State = gain elapsed s in
      let Over : Bool → Chosen = λ (b : Bool). cond b (rule_p c (requeued h.0 u)) (stays_holder h elapsed u) in
      let OverReach : Bool → Reach = λ (b : Bool). cond b (reaches (out_of_slice h.0 u) c) unreached in
      let over : Bool = slice_over h.0 elapsed c u in
      rw (switches-is h.0 elapsed c u) (
      split (λ (b : Bool). Way s call (told_as how (Some h) (cond b (rule_p c (cleared c u)) (Over over)))
      (cond b (reaches (cleared c u) c) (OverReach over)))
      (is_state (task u h.0).state Blocked)
      (λ blocked. comes how (Some h) c _ _ low on-it is (clearing (later elapsed) h is blocked))
      (λ awake. split (λ (b : Bool). Way s call (told_as how (Some h) (Over b)) (OverReach b)) over
      (λ ended. comes how (Some h) c _ _ low on-it is (slice_ends elapsed h is (named h is) awake ended))
      (λ on. keeps how c elapsed h low is (named h is) awake on)))

  yield_way : (h : Option Slot) → holder_of s c ≡ h → Way s call (yield_holder h c s) (yield_reach h c s)
  unfolding enqueue
  yield_way None is = comes plan_telling None c s s low on-it is (straight at_once)
  yield_way (Some h) is =
      let away : Reach = reaches (cleared c (enqueued h.0 s)) c in
      let Ends : Outcome → Type 0 = λ (o : Outcome). Way s call (and_then o (λ t. answer_plan (Some h) (rule_p c (cleared c t)))) away in
      split (λ (b : Bool). Way s call (cond (not b) (refused NoSuchTask s) (yield_running h c s)) (cond b away unreached))
      (is_state (task s h.0).state Running)
      (λ runs.
      by_if Ends (missing s h.0) (λ lost. refuses NoSuchTask (by_free_holder c h is lost)) (λ here.
      by_if Ends (is_state (task s h.0).state Ready) (λ ready. absurd (true≢false (sym ready ∙ idle_in (task s h.0) Running runs refl))) (λ idle.
      by_if Ends (full (queue s (task s h.0).qos)) (λ none_left. refuses QueueFull (by_full_queue h.0 here idle none_left)) (λ _.
      comes plan_telling (Some h) c _ _ low on-it is (yielding h is (named h is) runs)))))
      (λ _. no_task s)

  handoff_way : (h : Option Slot) → holder_of s c ≡ h → Way s call (handoff_holder h c s) (handoff_reach h c s)
  handoff_way None is = no_task s
  handoff_way (Some h) is = by_state (task s h.0).state refl
    where
      by_state : (st : ThreadState) → (task s h.0).state ≡ st →
          Way s call (handoff_in st h c s) (cond (is_state st Blocked) (reaches (cleared c s) c) unreached)
      by_state Ready e = refuse s NotBlocked (λ n. omega arith)
      by_state Running e = tells _ no_plan
      by_state Blocked e = comes plan_telling (Some h) c _ _ low on-it is (clearing at_once h is (ap (λ (st : ThreadState). is_state st Blocked) e))
      by_state Terminated e = no_task s

-- ---- every call

-- a call on a core, by whether it is below 64
on_core : (c : ℕ) (P : Bool → Type 0) → P true → (c < 64 → P false) → P (leb 64 c)
on_core c P past there = split P (leb 64 c) (λ _. past) (λ low. there (leb-false 64 c low))

pub way : (call : Call) (s : State) → Way s call (step call s) (reach call s)
unfolding reach schedule rule_p tick ticked yield handoff planned task_index_for_tid
way (Create tid band context cr3 rsp0) s = create_way s tid band context cr3 rsp0
way (Affinity i mask) s = affinity_way s i mask
way (Terminate i) s = terminate_way s i
way (Block i) s = block_way s i
way (Wake i) s = wake_way s i
way (Enqueue i) s = enqueue_way s i.0 refl
way (Schedule c) s =
    split (λ (b : Bool). leb 64 c ≡ b → Way s (Schedule c) (schedule c s) (cond b unreached (reaches s c))) (leb 64 c)
    (λ _ past. rw past (tells _ nobody))
    (λ _ low. comes by_slot (holder_of s c) c s s (leb-false 64 c low) refl refl (straight at_once))
    refl
way (Tick c elapsed) s =
    let h : Option Slot = holder_of s c in
    let u : State = gain elapsed s in
    on_core c (λ (b : Bool). Way s (Tick c elapsed) (answer_slot (cond b (no_choice s) (tick_holder h c elapsed u))) (cond b unreached (tick_reach h c elapsed u)))
    (tells _ nobody) (λ low. tick_way s (Tick c elapsed) c low refl refl by_slot elapsed h refl)
way (Yield c) s =
    let h : Option Slot = holder_of s c in
    on_core c (λ (b : Bool). Way s (Yield c) (cond b (refused NoSuchTask s) (yield_holder h c s)) (cond b unreached (yield_reach h c s)))
    (no_task s) (λ low. yield_way s (Yield c) c low refl refl h refl)
way (Handoff c) s =
    let h : Option Slot = holder_of s c in
    on_core c (λ (b : Bool). Way s (Handoff c) (cond b (refused NoSuchTask s) (handoff_holder h c s)) (cond b unreached (handoff_reach h c s)))
    (no_task s) (λ low. handoff_way s (Handoff c) c low refl refl h refl)
way (Plan c elapsed) s =
    let h : Option Slot = holder_of s c in
    let u : State = gain elapsed s in
    let Ends : Bool → Outcome = λ (b : Bool). cond b (done (value.Plan None) s) (answer_plan h (cond b (no_choice s) (tick_holder h c elapsed u))) in
    on_core c (λ (b : Bool). Way s (Plan c elapsed) (Ends b) (cond b unreached (tick_reach h c elapsed u))) (tells _ no_plan)
    (λ low. tick_way s (Plan c elapsed) c low refl refl plan_telling elapsed h refl)
way (CanRunOnCore i c) s = tells _ (a_flag (can_run_on_core i.0 c s))
way (TaskIndexForTid tid) s = tells _ (a_slot (first_place (has_tid tid.0) s.tasks))
way (Task i) s = tells _ (a_record i.0)
way (CurrentTaskOnCpu c) s = tells _ (a_holder c)
way SystemTicksUs s = tells _ the_time
way (Holder i) s = tells _ (a_core i.0)
