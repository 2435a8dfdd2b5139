-- Tick, yield and handoff, and what each comes to by what the code has read of the core's holder: nobody, or the slot `h` with the record
-- `read`. What is handed on to a pick is accepted. Assumes nothing.
use Rattle.std.proofs.Common.{◌≡◌, ℕ, ◌+◌, ◌%◌, ◌^◌, ◌<◌, ◌≤◌, Bool, true, false, cond, not, leb, List, length, get_or, set, sym, refl, ap, ◌∙◌, subst, arith, get_or-set_same, set-set, le-leb}
use mathlib.Core.Bool.{or-true}
use borrow.Author.Tests.{leb-true, lt-leb, lt-ltb, not-false}
use denote.Enum.Bare.{sameb}
use mir.Val.{Fits}
use mir.Syntax.{w32, w64}
use Rattle.std.specs.Prelude.{Option, None, Some, Result, is_ok, IsOk, IfSome}
use Rattle.records.specs.contracts.state.ThreadState.{the_type}
use Rattle.records.specs.declared.band.QoSClass.{QoSClass}
use Rattle.records.specs.declared.band.QoSClass.TheVariants.{UserInteractive, RealTimeIO, Background}
use Rattle.records.specs.declared.error.SchedError.{SchedError}
use Rattle.records.specs.declared.error.SchedError.TheVariants.{NoSuchTask, NotBlocked}
use Rattle.records.specs.declared.ids.Slot.{Slot}
use Rattle.records.specs.declared.state.ThreadState.{ThreadState}
use Rattle.records.specs.declared.state.ThreadState.TheVariants.{Ready, Running, Blocked, Terminated}
use Rattle.records.specs.declared.task.TaskControlBlock.{TaskControlBlock}
use Rattle.records.specs.Band.{slice, IsBandCode}
use Rattle.records.specs.ThreadState.{is_state}
use Rattle.records.specs.Task.{empty_record, with_state, with_consumed}
use Rattle.records.proofs.Cases.{split}
use Rattle.queue.specs.declared.BandQueue.{BandQueue}
use Rattle.queue.specs.Promises.{Push}
use Rattle.queue.specs.Entries.{pushed}
use Rattle.rules.specs.declared.answer.ContextSwitchTarget.{ContextSwitchTarget}
use Rattle.rules.specs.declared.answer.ContextSwitchTarget.TheVariants.{Task}
use Rattle.rules.specs.declared.answer.Value.TheVariants as value
use Rattle.rules.specs.Accepted.{Accepted, MayHold, accepts}
use Rattle.rules.specs.Outcome.{Chosen, answered, done, refused}
use Rattle.rules.specs.Picking.{no_choice, rule_p, answer_slot}
use Rattle.rules.specs.Queries.{holder_record, current_task_on_cpu}
use Rattle.rules.specs.State.{State, none_byte, task, queue, holder_in, holder_of, with_task, with_queue, with_micros}
use Rattle.rules.specs.Ticking.{gain, cleared, waits_before, slice_over, requeued, stays_holder, ticked, tick, planned, answer_plan, yield, handoff_in, handoff}
use Rattle.rules.specs.Took.{out_of_slice}
use Rattle.rules.specs.Waking.{enqueued}
use Rattle.rules.specs.declared.answer.Answer.{Answer}
use Rattle.rules.specs.declared.call.Call.TheVariants.{Tick, Plan}
use Rattle.rules.proofs.Accepts.{accepts_complete}
use Rattle.rules.proofs.Calls.{room_in_queue, call-accepted}
use Rattle.rules.proofs.Effects.{idle_in, holder_is, clears, yields, slice_ends_lem, enqueue_done}
use Rattle.rules.proofs.Invariant.{no_holder, used_in_table}
use Rattle.rules.proofs.Moves.{Harmless, time}
use Rattle.scheduler.specs.declared.scheduler.QoSScheduler.{QoSScheduler}
use Rattle.scheduler.specs.declared.picking.Form.{Form}
use Rattle.scheduler.specs.Private.{Gives, answer_in, who_runs}
use Rattle.scheduler.specs.declared.scheduler.Reply.{Reply}
use Rattle.scheduler.specs.Scheduler.{abs, Meets}
use Rattle.scheduler.specs.Stored.{state_of}
use Rattle.scheduler.proofs.Arrays.{valid, known, record_at_lem, push_answer}
use Rattle.scheduler.proofs.Builders.{put_tail}
use Rattle.scheduler.proofs.OnSlots.{so, so_not}
use Rattle.scheduler.proofs.Promises.{unharmed, meets_given, gives-chosen}

slice_small : (q : QoSClass) → slice q ≤ 20000
slice_small UserInteractive = omega arith
slice_small RealTimeIO = omega arith
slice_small Background = omega arith

-- the end of a slice, where the record is stored once
module _ (s : State) (i : ℕ) (there : i < length s.tasks) where
  stored : task (with_task s i (with_consumed (task s i) 0)) i ≡ with_consumed (task s i) 0
  stored = get_or-set_same s.tasks i (with_consumed (task s i) 0) empty_record there

  out_ready : is_state (task s i).state Ready ≡ true → out_of_slice i s ≡ with_task s i (with_consumed (task s i) 0)
  out_ready is = rw (stored, is) refl

  out_queued : is_state (task s i).state Ready ≡ false →
      out_of_slice i s ≡ with_task (with_queue s (task s i).qos (pushed i (queue s (task s i).qos))) i (with_state (with_consumed (task s i) 0) Ready)
  out_queued is = rw (stored, is, set-set s.tasks i (with_consumed (task s i) 0) (with_state (with_consumed (task s i) 0) Ready)) refl

-- ---- a core of 64 and above

module _ (s : QoSScheduler) (core : ℕ) (past : 64 ≤ core) where
  pub none_held : holder_of (abs s) core ≡ None
  none_held = ap holder_in (no_holder (abs s) (valid s).cores core past)

  pub tick_past : (elapsed : ℕ) → ticked core elapsed (abs s) ≡ no_choice (abs s)
  unfolding ticked
  tick_past elapsed = rw (le-leb 64 core past) refl

  pub yield_past : yield core (abs s) ≡ refused NoSuchTask (abs s)
  unfolding yield
  yield_past = rw (le-leb 64 core past) refl

  pub handoff_past : handoff core (abs s) ≡ refused NoSuchTask (abs s)
  unfolding handoff
  handoff_past = rw (le-leb 64 core past) refl

-- ---- a core's holder, which was read: a slot of the table, and its record

pub holder_in_table : (s : QoSScheduler) (core : ℕ) (o : Option Slot) → o ≡ holder_of (abs s) core → IfSome o (λ (h : Slot). h.0 < 64)
holder_in_table s core None is = tt
holder_in_table s core (Some h) is = used_in_table (abs s) (valid s).slots h.0 (holder_is (abs s) (known s) core h (sym is)).used

pub holder_task : (s : QoSScheduler) (core : ℕ) {o : Option Slot} → o ≡ holder_of (abs s) core → holder_record o (abs s) ≡ current_task_on_cpu core (abs s)
unfolding current_task_on_cpu
holder_task s core is =
    ap (λ (o : Option Slot). holder_record o (abs s)) is
    ∙ split (λ (b : Bool). holder_record (holder_of (abs s) core) (abs s) ≡ cond b None (holder_record (holder_of (abs s) core) (abs s))) (leb 64 core)
    (λ past. rw (none_held s core (leb-true 64 core past)) refl)
    (λ _. refl)

-- ---- the tick, told as a slot or as a plan

pub tick_told : {s : QoSScheduler} {core elapsed : ℕ} {r : Reply} → Gives (answer_slot (ticked core elapsed (abs s))) r →
    Meets (Tick core elapsed) s r
unfolding tick
tick_told g = meets_given g refl

pub plan_told : {s : QoSScheduler} {core elapsed : ℕ} {r : Reply} → Gives (answer_plan (holder_of (abs s) core) (ticked core elapsed (abs s))) r →
    Meets (Plan core elapsed) s r
unfolding planned
plan_told {s} {core} {elapsed} g =
    meets_given g (split (λ (b : Bool). cond b (done (value.Plan None) (abs s)) (answer_plan (holder_of (abs s) core) (ticked core elapsed (abs s)))
    ≡ answer_plan (holder_of (abs s) core) (ticked core elapsed (abs s))) (leb 64 core)
    (λ past. rw (none_held s core (leb-true 64 core past), tick_past s core (leb-true 64 core past) elapsed) refl)
    (λ _. refl))

-- ---- a core below 64

-- the state once the time has gone by
abbrev pub later : QoSScheduler → ℕ → State
later s elapsed = gain elapsed (abs s)

-- the stored parts of a scheduler, of which the code holds them loose
abbrev pub Parts : Type 0
Parts = List TaskControlBlock × (List BandQueue × (List ℕ × (ℕ × Unit {0})))

module _ (s : QoSScheduler) (core : ℕ) (low : core < 64) where
  -- what the rules make of a tick is accepted
  pub ticked_kept : (elapsed : ℕ) {c : Chosen} → ticked core elapsed (abs s) ≡ c → accepts c.state ≡ true
  unfolding tick
  ticked_kept elapsed {c} comes =
      accepts_complete c.state (subst (λ (e : Chosen). Accepted e.state) comes (call-accepted (Tick core elapsed) (abs s) (valid s)))

  gone_by : (elapsed : ℕ) → Harmless (λ (x : ℕ). ⊥) (abs s) (later s elapsed)
  gone_by elapsed = time (abs s) (known s) (later s elapsed).micros

  pub later_kept : (elapsed : ℕ) → accepts (later s elapsed) ≡ true
  later_kept elapsed = unharmed refl (gone_by elapsed)

  -- and so is what is left where the core lets go of its holder
  pub cleared_kept : accepts (cleared core (abs s)) ≡ true
  cleared_kept = unharmed refl (clears (abs s) (known s) core low)

  pub later_cleared_kept : (elapsed : ℕ) → accepts (cleared core (later s elapsed)) ≡ true
  later_cleared_kept elapsed = unharmed refl (clears (later s elapsed) (gone_by elapsed).invariant core low)

module _ (s : QoSScheduler) (core : ℕ) (low : core < 64) where
  -- ---- nobody holds the core

  module _ (none : None ≡ holder_of (abs s) core) where
    pub tick_none : (elapsed : ℕ) → ticked core elapsed (abs s) ≡ rule_p core (later s elapsed)
    unfolding ticked
    tick_none elapsed = rw (lt-leb 64 core low, sym none) refl

    pub yield_none : yield core (abs s) ≡ answer_plan None (rule_p core (abs s))
    unfolding yield
    yield_none = rw (lt-leb 64 core low, sym none) refl

    pub handoff_none : handoff core (abs s) ≡ refused NoSuchTask (abs s)
    unfolding handoff
    handoff_none = rw (lt-leb 64 core low, sym none) refl

  -- ---- somebody does

  module _ {h : Slot} (some : Some h ≡ holder_of (abs s) core) where
    may : MayHold (task (abs s) h.0)
    may = holder_is (abs s) (known s) core h (sym some)

    pub holder_low : h.0 < 64
    holder_low = holder_in_table s core (Some h) some

    there : h.0 < length s.tasks
    unfolding abs
    there = omega (arith, holder_low, (valid s).slots)

    module _ (dt : TaskControlBlock) where
      abbrev read : TaskControlBlock
      read = get_or s.tasks h.0 dt

      read_is : task (abs s) h.0 ≡ read
      read_is = sym (record_at_lem s h.0 dt holder_low)

      pub consumed_small : read.consumed_slice_us < 20000
      consumed_small = rw (sym read_is) (omega (arith, (valid s).consumed h.0 holder_low, slice_small (task (abs s) h.0).qos))

      budget_small : read.slice_budget_us ≤ 20000
      budget_small = rw (sym read_is, may.budget_is) (slice_small (task (abs s) h.0).qos)

      -- what the code adds and compares fits its types
      pub consumed_fits : Fits w64 read.consumed_slice_us
      consumed_fits = omega (arith, consumed_small)

      pub budget_fits : Fits w64 read.slice_budget_us
      budget_fits = omega (arith, budget_small)

      pub charged_fits : (elapsed : ℕ) → read.consumed_slice_us + elapsed < read.slice_budget_us → Fits w32 (read.consumed_slice_us + elapsed)
      charged_fits elapsed short = omega (arith, budget_small)

      -- its band's queue has room for it, where it is not Ready
      has_room : is_state (task (abs s) h.0).state Ready ≡ false → {n : ℕ} → IsBandCode read.qos n → (dq : BandQueue) →
          {a : Result Unit SchedError} {q : BandQueue} → Push (get_or s.queues n dq) h a q → IsOk a
      has_room idle code dq push =
          ap is_ok (push_answer s read.qos code.is dq push)
          ∙ rw (lt-ltb h.0 64 holder_low, room_in_queue (abs s) (valid s) read.qos h.0 holder_low idle) refl

      -- the holder goes to the tail of its band, with the record that f makes of its own
      module _ {n : ℕ} (code : IsBandCode read.qos n) (dq : BandQueue) {a : Result Unit SchedError} {q : BandQueue}
          (push : Push (get_or s.queues n dq) h a q) (f : TaskControlBlock → TaskControlBlock) {u : TaskControlBlock} (u-is : u ≡ f read) where
        abbrev tailed_with : TaskControlBlock → ℕ → State
        tailed_with t micros =
            with_task (with_queue (with_micros (abs s) micros) t.qos (pushed h.0 (queue (abs s) t.qos))) h.0 (f t)

        tailed : (micros : ℕ) → state_of (set s.tasks h.0 u) (set s.queues n q) s.current micros ≡ tailed_with (task (abs s) h.0) micros
        unfolding abs
        tailed micros = put_tail s.queues refl s.bands h (sym read_is) code dq push f u-is

      -- ---- tick

      module _ (elapsed : ℕ) where
        pub tick_blocked : true ≡ sameb the_type read.state Blocked → ticked core elapsed (abs s) ≡ rule_p core (cleared core (later s elapsed))
        unfolding ticked
        tick_blocked is = rw (lt-leb 64 core low, sym some, read_is, so read.state Blocked is) refl

        module _ (is : false ≡ sameb the_type read.state Blocked) where
          awake : is_state (task (abs s) h.0).state Blocked ≡ false
          awake = rw read_is (so read.state Blocked is)

          comes_to : (b : Bool) → slice_over h.0 elapsed core (later s elapsed) ≡ b →
              ticked core elapsed (abs s) ≡ cond b (rule_p core (requeued h.0 (later s elapsed))) (stays_holder h elapsed (later s elapsed))
          unfolding ticked
          comes_to b test = rw (lt-leb 64 core low, sym some, awake, test) refl

          -- the slice goes on
          module _ (short : read.consumed_slice_us + elapsed < read.slice_budget_us) (nobody : false ≡ waits_before read.qos (later s elapsed) core)
              {u : TaskControlBlock} (u-is : u ≡ with_consumed read (read.consumed_slice_us + elapsed)) where
            goes_on : slice_over h.0 elapsed core (later s elapsed) ≡ false
            goes_on = rw (read_is, sym nobody, lt-leb read.slice_budget_us (read.consumed_slice_us + elapsed) short) refl

            pub tick_stays : ticked core elapsed (abs s) ≡ record { next = Some h; pick = None; state = with_task (later s elapsed) h.0 u }
            tick_stays = comes_to false goes_on ∙ rw (read_is, u-is) refl

            pub tick_stays_gives : (f : Form) {t : ContextSwitchTarget} {a : Answer} {m : QoSScheduler} → t ≡ Task h read.cr3 →
                a ≡ answered None (who_runs f t) → abs m ≡ with_task (later s elapsed) h.0 u →
                Gives (answer_in f (ticked core elapsed (abs s))) (record { answer = a; state = m })
            unfolding abs
            tick_stays_gives f t-is a-is state =
                gives-chosen f tick_stays
                (t-is ∙ ap (λ (r : TaskControlBlock). Task h r.cr3) (sym u-is ∙ sym (get_or-set_same s.tasks h.0 u empty_record there))) a-is state

          -- the slice is over: the budget is reached, or an earlier band's entry waits
          pub record Over (p : Parts) : Type 0 where
            pub parts : p ≡ (s.tasks, (s.queues, (s.current, ((s.system_ticks_us + elapsed) % 2 ^ 64, tt))))
            pub over : slice_over h.0 elapsed core (later s elapsed) ≡ true

          module _ {p : Parts} (parts : p ≡ (s.tasks, (s.queues, (s.current, ((s.system_ticks_us + elapsed) % 2 ^ 64, tt))))) where
            pub over_used : read.slice_budget_us ≤ read.consumed_slice_us + elapsed → Over p
            over_used past = record { parts = parts; over = rw (read_is, le-leb read.slice_budget_us (read.consumed_slice_us + elapsed) past) refl }

            pub over_waits : true ≡ waits_before read.qos (later s elapsed) core → Over p
            over_waits waits = record {
              parts = parts;
              over = rw (read_is, sym waits) (or-true (leb read.slice_budget_us (read.consumed_slice_us + elapsed)));
            }

          module _ (p : Parts) (o : Over p) where
            ends : Harmless (λ (x : ℕ). ⊥) (later s elapsed) (out_of_slice h.0 (later s elapsed)) ×
                (requeued h.0 (later s elapsed) ≡ out_of_slice h.0 (later s elapsed))
            ends = slice_ends_lem (later s elapsed) (gone_by s core low elapsed).invariant h.0 may.used

            -- a state that is what the end of the slice leaves
            left_kept : {t : State} → t ≡ out_of_slice h.0 (later s elapsed) → accepts t ≡ true
            left_kept is = unharmed is ends.0

            left_comes : {t : State} → t ≡ out_of_slice h.0 (later s elapsed) → ticked core elapsed (abs s) ≡ rule_p core t
            left_comes is = comes_to true o.over ∙ ap (rule_p core) (ends.1 ∙ sym is)

            -- a Ready holder waits already
            module _ (waits : true ≡ sameb the_type read.state Ready) {u : TaskControlBlock} (u-is : u ≡ with_consumed read 0) where
              spared : state_of (set p.0 h.0 u) p.1.0 p.1.1.0 p.1.1.1.0 ≡ out_of_slice h.0 (later s elapsed)
              unfolding abs
              spared =
                  subst (λ (r : Parts). state_of (set r.0 h.0 u) r.1.0 r.1.1.0 r.1.1.1.0 ≡ out_of_slice h.0 (later s elapsed)) (sym o.parts)
                  (ap (with_task (later s elapsed) h.0) (u-is ∙ ap (λ (t : TaskControlBlock). with_consumed t 0) (sym read_is))
                  ∙ sym (out_ready (later s elapsed) h.0 there (rw read_is (so read.state Ready waits))))

              pub spared_kept : accepts (state_of (set p.0 h.0 u) p.1.0 p.1.1.0 p.1.1.1.0) ≡ true
              spared_kept = left_kept spared

              pub tick_spared : ticked core elapsed (abs s) ≡ rule_p core (state_of (set p.0 h.0 u) p.1.0 p.1.1.0 p.1.1.1.0)
              tick_spared = left_comes spared

            -- there is room for any other
            pub sent_back_pushed : false ≡ sameb the_type read.state Ready → {n : ℕ} → IsBandCode read.qos n → (dq : BandQueue) →
                {a : Result Unit SchedError} {q : BandQueue} → Push (get_or p.1.0 n dq) h a q → IsOk a
            unfolding abs
            sent_back_pushed runs {n} code dq {a} {q} push =
                subst (λ (r : Parts). Push (get_or r.1.0 n dq) h a q → IsOk a) (sym o.parts)
                (has_room (rw read_is (so read.state Ready runs)) code dq) push

            -- any other goes to the tail of its band
            module _ (runs : false ≡ sameb the_type read.state Ready) {n : ℕ} (code : IsBandCode read.qos n) (dq : BandQueue)
                {a : Result Unit SchedError} {q : BandQueue} (push : Push (get_or p.1.0 n dq) h a q)
                {v u : TaskControlBlock} (v-is : v ≡ with_consumed read 0) (u-is : u ≡ with_state v Ready) where
              sent_back : state_of (set p.0 h.0 u) (set p.1.0 n q) p.1.1.0 p.1.1.1.0 ≡ out_of_slice h.0 (later s elapsed)
              unfolding abs
              sent_back =
                  subst (λ (r : Parts). Push (get_or r.1.0 n dq) h a q →
                  state_of (set r.0 h.0 u) (set r.1.0 n q) r.1.1.0 r.1.1.1.0 ≡ out_of_slice h.0 (later s elapsed)) (sym o.parts)
                  (λ pushes.
                  tailed code dq pushes (λ (t : TaskControlBlock). with_state (with_consumed t 0) Ready)
                  (u-is ∙ ap (λ (t : TaskControlBlock). with_state t Ready) v-is) (later s elapsed).micros
                  ∙ sym (out_queued (later s elapsed) h.0 there (rw read_is (so read.state Ready runs))))
                  push

              pub sent_back_kept : accepts (state_of (set p.0 h.0 u) (set p.1.0 n q) p.1.1.0 p.1.1.1.0) ≡ true
              sent_back_kept = left_kept sent_back

              pub tick_over : ticked core elapsed (abs s) ≡ rule_p core (state_of (set p.0 h.0 u) (set p.1.0 n q) p.1.1.0 p.1.1.1.0)
              tick_over = left_comes sent_back

      -- ---- yield

      pub yield_other : true ≡ not (sameb the_type read.state Running) → yield core (abs s) ≡ refused NoSuchTask (abs s)
      unfolding yield
      yield_other is = rw (lt-leb 64 core low, sym some, read_is, so_not read.state Running is) refl

      module _ (is : false ≡ not (sameb the_type read.state Running)) where
        runs : is_state (task (abs s) h.0).state Running ≡ true
        runs = rw read_is (not-false (is_state read.state Running) (so_not read.state Running is))

        idle : is_state (task (abs s) h.0).state Ready ≡ false
        idle = idle_in (task (abs s) h.0) Running runs refl

        yields-to : yield core (abs s) ≡ answer_plan (Some h) (rule_p core (cleared core (enqueued h.0 (abs s))))
        unfolding yield
        yields-to = rw (lt-leb 64 core low, sym some, runs, enqueue_done (abs s) (known s) h.0 holder_low may.used idle) refl

        pub yield_pushed : {n : ℕ} → IsBandCode read.qos n → (dq : BandQueue) {a : Result Unit SchedError} {q : BandQueue} →
            Push (get_or s.queues n dq) h a q → IsOk a
        yield_pushed = has_room idle

        module _ {n : ℕ} (code : IsBandCode read.qos n) (dq : BandQueue) {a : Result Unit SchedError} {q : BandQueue}
            (push : Push (get_or s.queues n dq) h a q) {u : TaskControlBlock} (u-is : u ≡ with_state read Ready) where
          gave_way : state_of (set s.tasks h.0 u) (set s.queues n q) (set s.current core none_byte) s.system_ticks_us
              ≡ cleared core (enqueued h.0 (abs s))
          unfolding abs
          gave_way = ap (cleared core) (tailed code dq push (λ (t : TaskControlBlock). with_state t Ready) u-is s.system_ticks_us)

          pub yield_kept : accepts (state_of (set s.tasks h.0 u) (set s.queues n q) (set s.current core none_byte) s.system_ticks_us) ≡ true
          yield_kept = unharmed gave_way (yields (abs s) (known s) h.0 core low may.used idle)

          pub yield_comes : yield core (abs s) ≡ answer_plan (Some h) (rule_p core (
              state_of (set s.tasks h.0 u) (set s.queues n q) (set s.current core none_byte) s.system_ticks_us))
          yield_comes = yields-to ∙ ap (λ (t : State). answer_plan (Some h) (rule_p core t)) (sym gave_way)

      -- ---- handoff

      handoff_by : {st : ThreadState} → read.state ≡ st → handoff core (abs s) ≡ handoff_in st h core (abs s)
      unfolding handoff
      handoff_by is = rw (lt-leb 64 core low, sym some, read_is, is) refl

      pub handoff_running : read.state ≡ Running → handoff core (abs s) ≡ done (value.Plan None) (abs s)
      handoff_running is = handoff_by is

      pub handoff_blocked : read.state ≡ Blocked → handoff core (abs s) ≡ answer_plan (Some h) (rule_p core (cleared core (abs s)))
      handoff_blocked is = handoff_by is

      pub handoff_ready : read.state ≡ Ready → handoff core (abs s) ≡ refused NotBlocked (abs s)
      handoff_ready is = handoff_by is

      pub handoff_terminated : read.state ≡ Terminated → handoff core (abs s) ≡ refused NoSuchTask (abs s)
      handoff_terminated is = handoff_by is
