-- The calls on slots, and what each comes to by what the code has read and stored: the record `t`, what it becomes, `u`, and the queues and
-- holders as they are then. Assumes nothing.
use Rattle.std.proofs.Common.{◌≡◌, ℕ, ◌<◌, ◌≤◌, Bool, true, false, cond, not, ltb, leb, List, map, refl, sym, ap, ◌∙◌, arith, lt-ltb, le-leb, le-ltb}
use borrow.Author.Tests.{lt-leb, leb-true, leb-false}
use denote.Enum.Bare.{sameb}
use Rattle.std.specs.Prelude.{Option, None, Some, Result, Ok, Err, is_some}
use Rattle.records.specs.contracts.state.ThreadState.{the_type}
use Rattle.records.specs.declared.band.QoSClass.{QoSClass}
use Rattle.records.specs.declared.band.QoSClass.TheVariants.{UserInteractive, RealTimeIO, Background}
use Rattle.records.specs.declared.error.SchedError.{SchedError}
use Rattle.records.specs.declared.error.SchedError.TheVariants.{TableFull, NoSuchTask, QueueFull, AlreadyReady, AlreadyBlocked, NotBlocked}
use Rattle.records.specs.declared.ids.Tid.{Tid}
use Rattle.records.specs.declared.state.ThreadState.{ThreadState}
use Rattle.records.specs.declared.state.ThreadState.TheVariants.{Ready, Running, Blocked}
use Rattle.records.specs.declared.task.TaskControlBlock.{TaskControlBlock}
use Rattle.records.specs.Mask.{stored_mask}
use Rattle.records.specs.Task.{created, with_mask, with_state, blocked, terminated}
use Rattle.records.specs.ThreadState.{is_state}
use Rattle.records.proofs.Cases.{split, neither}
use Rattle.records.proofs.States.{same_state-is}
use Rattle.queue.specs.Entries.{full, push_result, pushed, without}
use Rattle.queue.proofs.Entries.{takes-slot, pushed-refused}
use Rattle.rules.specs.declared.answer.Value.TheVariants as value
use Rattle.rules.specs.Outcome.{done, refused}
use Rattle.rules.specs.Queries.{task_at, core_below}
use Rattle.rules.specs.State.{State, Queues, task, of_band, queue, with_band, each_queue, with_task, with_queues, with_holders}
use Rattle.rules.specs.Waking.{missing, released, core_holding, is_held, free_slot, create, affinity, terminate, block, wake, enqueue}
use Rattle.scheduler.specs.Private.{in_use_at}

-- ---- what is known of an option that a test chose

none_if : {A : Type 0} (a : A) (b : Bool) → None ≡ cond b None (Some a) → b ≡ true
none_if a true e = refl
none_if a false e = let never : ◌≡◌ {A = ℕ} 0 1 = cc in absurd (omega arith)

some_if : {A : Type 0} {a r : A} (b : Bool) → Some r ≡ cond b None (Some a) → (b ≡ false) × (r ≡ a)
some_if true e = let never : ◌≡◌ {A = ℕ} 0 1 = cc in absurd (omega arith)
some_if false e = (refl, cc)

-- the place that a search through 64 found
pub found_none : (place : ℕ) → None ≡ core_below place → 64 ≤ place
found_none place e = leb-true 64 place (none_if place (leb 64 place) e)

pub found_some : (place : ℕ) {k : ℕ} → Some k ≡ core_below place → (place ≡ k) × (k < 64)
found_some place e = let r = some_if (leb 64 place) e in (sym r.1, omega (arith, leb-false 64 place r.0, r.1))

-- ---- two states compared

pub so : (one other : ThreadState) {b : Bool} → b ≡ sameb the_type one other → is_state one other ≡ b
so one other is = sym (is ∙ same_state-is one other)

pub so_not : (one other : ThreadState) {b : Bool} → b ≡ not (sameb the_type one other) → not (is_state one other) ≡ b
so_not one other is = sym (is ∙ ap not (same_state-is one other))

-- ---- whether a core holds the slot

some-is : (n : ℕ) → is_some (core_below n) ≡ ltb n 64
some-is n =
    split (λ (b : Bool). is_some (cond b None (Some n)) ≡ ltb n 64) (leb 64 n)
    (λ past. sym (le-ltb n 64 (leb-true 64 n past)))
    (λ low. sym (lt-ltb n 64 (leb-false 64 n low)))

pub held_is : (s : State) (slot : ℕ) {o : Option ℕ} {b : Bool} → o ≡ core_below (core_holding s slot) → is_some o ≡ b → is_held s slot ≡ b
held_is s slot o-is is = sym (ap is_some o-is ∙ some-is (core_holding s slot)) ∙ is

-- ---- create

module _ (s : State) (tid : Tid) (band : QoSClass) (context cr3 rsp0 : ℕ) where
  pub create_full : None ≡ core_below (free_slot s) → create tid band context cr3 rsp0 s ≡ refused TableFull s
  unfolding create
  create_full none = rw (le-leb 64 (free_slot s) (found_none (free_slot s) none)) refl

  pub create_done : {free : ℕ} {u : TaskControlBlock} → Some free ≡ core_below (free_slot s) → u ≡ created tid band context cr3 rsp0 →
      create tid band context cr3 rsp0 s ≡ done (value.Slot (Some (record { 0 = free }))) (with_task s free u)
  unfolding create
  create_done {free} some u-is =
      let r = found_some (free_slot s) some in rw (r.0, u-is) (rw (lt-leb 64 free r.1) refl)

-- ---- a band's queue put in its own place

band_itself : (q : Queues) (b : QoSClass) → with_band q b (of_band q b) ≡ q
band_itself q UserInteractive = refl
band_itself q RealTimeIO = refl
band_itself q Background = refl

-- ---- a slot that is named

module _ (s : State) (slot : ℕ) where
  slot_past : None ≡ task_at slot s → leb 64 slot ≡ true
  unfolding task_at
  slot_past is = none_if _ (leb 64 slot) is

  slot_read : {t : TaskControlBlock} → Some t ≡ task_at slot s → (leb 64 slot ≡ false) × (t ≡ task s slot)
  unfolding task_at
  slot_read is = some_if (leb 64 slot) is

  pub slot_low : {t : TaskControlBlock} → Some t ≡ task_at slot s → slot < 64
  slot_low is = leb-false 64 slot (slot_read is).0

  pub affinity_past : (mask : ℕ) → None ≡ task_at slot s → affinity slot mask s ≡ refused NoSuchTask s
  unfolding affinity
  affinity_past mask none = rw (slot_past none) refl

  pub affinity_done : (mask : ℕ) {t u : TaskControlBlock} → Some t ≡ task_at slot s → u ≡ with_mask t (stored_mask mask) →
      affinity slot mask s ≡ done value.Nothing (with_task s slot u)
  unfolding affinity
  affinity_done mask read u-is = rw ((slot_read read).0, u-is, (slot_read read).1) refl

  pub terminate_past : None ≡ task_at slot s → terminate slot s ≡ refused NoSuchTask s
  unfolding terminate
  terminate_past none = rw (slot_past none) refl

  pub terminate_done : {t u : TaskControlBlock} {q : Queues} {hs : List ℕ} → Some t ≡ task_at slot s → u ≡ terminated t →
      q ≡ each_queue (without slot) s.queues → hs ≡ map (released slot) s.holders →
      terminate slot s ≡ done value.Nothing (with_task (with_holders (with_queues s q) hs) slot u)
  unfolding terminate
  terminate_done read u-is q-is hs-is = rw ((slot_read read).0, u-is, (slot_read read).1, q-is, hs-is) refl

  -- ---- a slot in use

  not_used : None ≡ in_use_at slot s → missing s slot ≡ true
  not_used is = none_if _ (missing s slot) is

  used : {t : TaskControlBlock} → Some t ≡ in_use_at slot s → (missing s slot ≡ false) × (t ≡ task s slot)
  used is = some_if (missing s slot) is

  pub block_missing : None ≡ in_use_at slot s → block slot s ≡ refused NoSuchTask s
  unfolding block
  block_missing none = rw (not_used none) refl

  pub wake_missing : None ≡ in_use_at slot s → wake slot s ≡ refused NoSuchTask s
  unfolding wake
  wake_missing none = rw (not_used none) refl

  pub enqueue_missing : None ≡ in_use_at slot s → enqueue slot s ≡ refused NoSuchTask s
  unfolding enqueue
  enqueue_missing none = rw (not_used none) refl

  push_refused : slot < 64 → (es : List ℕ) {e : SchedError} → Err e ≡ push_result slot es → (full es ≡ true) × (e ≡ QueueFull)
  push_refused low es {e} answer =
      split (λ (b : Bool). ◌≡◌ {A = Result Unit SchedError} (Err e) (cond (not b) (Ok tt) (Err QueueFull)) → (b ≡ true) × (e ≡ QueueFull)) (full es)
      (λ _ same. (refl, cc))
      (λ _ same. let never : ◌≡◌ {A = ℕ} 0 1 = cc in absurd (omega arith))
      (rw (lt-ltb slot 64 low) at answer)

  push_done : slot < 64 → (es : List ℕ) {x : Unit} → Ok x ≡ push_result slot es → full es ≡ false
  push_done low es {x} answer =
      split (λ (b : Bool). ◌≡◌ {A = Result Unit SchedError} (Ok x) (cond (not b) (Ok tt) (Err QueueFull)) → b ≡ false) (full es)
      (λ _ same. let never : ◌≡◌ {A = ℕ} 0 1 = cc in absurd (omega arith))
      (λ _ same. refl)
      (rw (lt-ltb slot 64 low) at answer)

  module _ {t : TaskControlBlock} (read : Some t ≡ in_use_at slot s) where
    here : missing s slot ≡ false
    here = (used read).0

    pub low : slot < 64
    low = leb-false 64 slot (neither (leb 64 slot) (not (task s slot).in_use) here).0

    read_is : task s slot ≡ t
    read_is = sym (used read).1

    pub block_again : true ≡ sameb the_type t.state Blocked → block slot s ≡ refused AlreadyBlocked s
    unfolding block
    block_again is = rw (here, read_is, so t.state Blocked is) refl

    pub block_done : false ≡ sameb the_type t.state Blocked → {q : Queues} {u : TaskControlBlock} →
        q ≡ each_queue (without slot) s.queues → u ≡ blocked t →
        block slot s ≡ done value.Nothing (with_task (with_queues s q) slot u)
    unfolding block
    block_done is q-is u-is = rw (here, read_is, so t.state Blocked is, q-is, u-is) refl

    pub wake_awake : true ≡ not (sameb the_type t.state Blocked) → wake slot s ≡ refused NotBlocked s
    unfolding wake
    wake_awake is = rw (here, read_is, so_not t.state Blocked is) refl

    -- a Blocked task that no core holds is woken as it is enqueued
    pub wake_as_enqueue : false ≡ not (sameb the_type t.state Blocked) → is_held s slot ≡ false → wake slot s ≡ enqueue slot s
    unfolding wake
    wake_as_enqueue is free = rw (here, read_is, so_not t.state Blocked is, free) refl

    pub wake_held : false ≡ not (sameb the_type t.state Blocked) → is_held s slot ≡ true → {u : TaskControlBlock} → u ≡ with_state t Running →
        wake slot s ≡ done value.Nothing (with_task s slot u)
    unfolding wake
    wake_held is held u-is = rw (here, read_is, so_not t.state Blocked is, held, u-is) refl

    pub enqueue_again : true ≡ sameb the_type t.state Ready → enqueue slot s ≡ refused AlreadyReady s
    unfolding enqueue
    enqueue_again is = rw (here, read_is, so t.state Ready is) refl

    -- a push answers as an enqueue does
    pub enqueue_full : false ≡ sameb the_type t.state Ready → {e : SchedError} → Err e ≡ push_result slot (queue s t.qos) →
        enqueue slot s ≡ refused e s
    unfolding enqueue
    enqueue_full is answer =
        let full-is = push_refused low (queue s t.qos) answer in rw (here, read_is, so t.state Ready is, full-is.0, full-is.1) refl

    -- and leaves the queues as they were where it is refused
    pub full_stays : {e : SchedError} → Err e ≡ push_result slot (queue s t.qos) → {q : Queues} →
        q ≡ with_band s.queues t.qos (pushed slot (queue s t.qos)) → with_queues s q ≡ s
    full_stays answer q-is =
        let none = takes-slot slot (queue s t.qos) low ∙ ap not (push_refused low (queue s t.qos) answer).0 in
        ap (with_queues s)
        (q-is ∙ ap (with_band s.queues t.qos) (pushed-refused slot (queue s t.qos) none) ∙ band_itself s.queues t.qos)

    pub enqueue_done : false ≡ sameb the_type t.state Ready → {x : Unit} {q : Queues} {u : TaskControlBlock} →
        Ok x ≡ push_result slot (queue s t.qos) →
        q ≡ with_band s.queues t.qos (pushed slot (queue s t.qos)) → u ≡ with_state t Ready →
        enqueue slot s ≡ done value.Nothing (with_task (with_queues s q) slot u)
    unfolding enqueue
    enqueue_done is answer q-is u-is = rw (here, read_is, so t.state Ready is, push_done low (queue s t.qos) answer, q-is, u-is) refl
