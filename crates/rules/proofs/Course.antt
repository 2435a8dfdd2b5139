-- What every call does, in an accepted state: where it does not come to P it picks nobody and makes a harmless change; where it does, a harmless change
-- leads to the state that P is reached from, and pick and end state are P's. By cases on the ways out of a call. Assumes nothing.
use mathlib.Core.Path.{◌≡◌, refl, sym, ap, ◌∙◌}
use mathlib.Core.Bool.{true, false, true≢false}
use Prim.Native.Nat.{ℕ, ◌<◌}
use native.Mathlib.Omega.{arith}
use borrow.Author.Tests.{leb-false, lt-leb}
use lib.Dec.{leb}
use Rattle.std.specs.Prelude.{Option, None, Some}
use Rattle.rules.specs.declared.answer.Pick.{Pick}
use Rattle.records.specs.declared.error.SchedError.{SchedError}
use Rattle.records.specs.declared.ids.Slot.{Slot}
use Rattle.records.specs.declared.state.ThreadState.TheVariants.{Running}
use Rattle.records.specs.Band.{slice}
use Rattle.records.specs.Task.{with_consumed}
use Rattle.records.proofs.Cases.{neither}
use Rattle.rules.specs.declared.answer.Value.{Value}
use Rattle.rules.specs.declared.call.Call.{Call}
use Rattle.rules.specs.Accepted.{MayHold}
use Rattle.rules.specs.Outcome.{Outcome}
use Rattle.rules.specs.Picking.{rule_p}
use Rattle.rules.specs.State.{State, task, holder_of, with_task}
use Rattle.rules.specs.Step.{step}
use Rattle.rules.specs.Stretch.{changes, names, concern}
use Rattle.rules.specs.Ticking.{gain, cleared, waits_before, charged, slice_over, requeued}
use Rattle.rules.specs.Took.{Reach, unreached, reaches, out_of_slice, reach}
use Rattle.rules.proofs.Effects.{present, idle_in, holder_is, creates, sets_mask, blocks, wakes_holder, consumes, clears, terminates, yields, slice_ends_lem}
use Rattle.rules.proofs.Invariant.{Invariant, used_in_table, never_full}
use Rattle.rules.proofs.Moves.{Harmless, stay, then, to_tail, time}
use Rattle.rules.proofs.Ways.{Refusal, by_table, by_full_queue, by_free_holder, Deed, by_create, by_affinity, by_terminate, by_block, by_wake}
use Rattle.rules.proofs.Ways.{by_queueing, Timed, at_once, later, Approach, straight, clearing, slice_ends, yielding, Way, refuses, tells, does, keeps}
use Rattle.rules.proofs.Ways.{comes, way}

-- slots that a call neither blocks nor terminates nor sets the mask of
abbrev pub Untouched : Call → ℕ → Type 0
Untouched call x = concern call ≡ changes x → ⊥

-- from s, with this pick, to this end
pub data Course (call : Call) (s : State) (p : Option Pick) (end : State) : Reach → Type 0 where
  -- P is not reached: nobody is picked, and the change is harmless
  quiet : p ≡ None → Harmless (Untouched call) s end → Course call s p end unreached
  -- P is reached, on the core that the call names
  reaching : (t : State) (c : ℕ) → c < 64 → concern call ≡ names c → Harmless (Untouched call) s t → p ≡ (rule_p c t).pick →
      end ≡ (rule_p c t).state → Course call s p end (reaches t c)

abbrev CourseOf : Call → State → Outcome → Reach → Type 0
CourseOf call s o r = Course call s o.answer.pick o.state r

-- a call that touches i leaves alone whom it does not touch
apart : (i x : ℕ) → (changes i ≡ changes x → ⊥) → x ≡ i → ⊥
apart i x other same = other (ap changes (sym same))

module _ (s : State) (k : Invariant s) where
  -- no queue is full for a slot to be queued, and holders are in use
  refused_course : {call : Call} {e : SchedError} {r : Reach} → Refusal s e r → Course call s None s r
  refused_course (by_table other) = quiet refl (stay s k)
  refused_course (by_full_queue i here idle none_left) =
      absurd (true≢false (sym none_left ∙ never_full s k (task s i).qos i (present s i here).0 idle))
  refused_course (by_free_holder c h is lost) =
      let used : (task s h.0).in_use ≡ true = (holder_is s k c h is).used in
      absurd (true≢false (sym lost ∙ rw (lt-leb 64 h.0 (used_in_table s k.slots h.0 used)) (rw used refl)))

  deed_harmless : {call : Call} {v : Value} {t : State} → Deed s call v t → Harmless (Untouched call) s t
  deed_harmless (by_create tid band context cr3 rsp0 low) = creates s k tid band context cr3 rsp0 low
  deed_harmless (by_affinity i mask low) = sets_mask s k i.0 mask low (apart i.0)
  deed_harmless (by_terminate i low) = terminates s k i.0 low (apart i.0)
  deed_harmless (by_block i here awake) = blocks s k i.0 (present s i.0 here).0 (present s i.0 here).1 (apart i.0)
  deed_harmless (by_wake i here was held) = wakes_holder s k i.0 (present s i.0 here).0 (present s i.0 here).1 was
  deed_harmless (by_queueing i named here idle) = to_tail s k i (present s i here).1 idle

  module _ {safe : ℕ → Type 0} where
    timed_harmless : {u : State} → Timed s u → Harmless safe s u
    timed_harmless at_once = stay s k
    timed_harmless (later elapsed) = time s k (gain elapsed s).micros

    -- what is done before P is harmless, and is what Took says
    approach_harmless : {call : Call} {c : ℕ} {t u : State} → c < 64 → Approach s call c t u → Harmless safe s u × (t ≡ u)
    approach_harmless low (straight gone) = (timed_harmless gone, refl)
    approach_harmless {c = c} low (clearing {u} gone h is blocked) =
        let g : Harmless safe s u = timed_harmless gone in (then s u (cleared c u) g (clears u g.invariant c low), refl)
    approach_harmless low (slice_ends elapsed h is named awake ended) =
        let u : State = gain elapsed s in
        let g : Harmless safe s u = timed_harmless (later elapsed) in
        let ends : Harmless safe u (out_of_slice h.0 u) × (requeued h.0 u ≡ out_of_slice h.0 u) =
        slice_ends_lem u g.invariant h.0 (holder_is s k _ h is).used in
        (then s u (out_of_slice h.0 u) g ends.0, ends.1)
    approach_harmless low (yielding h is named runs) =
        (yields s k h.0 _ low (holder_is s k _ h is).used (idle_in (task s h.0) Running runs refl), refl)

    -- the holder stays: its consumed time is still below its slice
    kept_harmless : (c elapsed : ℕ) (h : Slot) → holder_of s c ≡ Some h → slice_over h.0 elapsed c (gain elapsed s) ≡ false →
        Harmless safe s (with_task (gain elapsed s) h.0 (with_consumed (task s h.0) (charged h.0 elapsed s)))
    kept_harmless c elapsed h is on =
        let u : State = gain elapsed s in
        let g : Harmless safe s u = timed_harmless (later elapsed) in
        let may : MayHold (task s h.0) = holder_is s k c h is in
        let budget : ℕ = (task s h.0).slice_budget_us in
        let sum : ℕ = charged h.0 elapsed s in
        let short : sum < budget = leb-false budget sum (neither (leb budget sum) (waits_before (task s h.0).qos u c) on).0 in
        let below-slice : sum < slice (task s h.0).qos = omega (arith, may.budget_is) in
        then s u (with_task u h.0 (with_consumed (task s h.0) sum)) g (consumes u g.invariant h.0 sum may.used below-slice)

  course_of : {call : Call} {o : Outcome} {r : Reach} → Way s call o r → CourseOf call s o r
  course_of (refuses e why) = refused_course why
  course_of (tells v of) = quiet refl (stay s k)
  course_of (does v t deed) = quiet refl (deed_harmless deed)
  course_of (keeps how c elapsed h low is named awake on) = quiet refl (kept_harmless c elapsed h is on)
  course_of {call} (comes how previous c t u low on-it is by) =
      let so : Harmless (Untouched call) s u × (t ≡ u) = approach_harmless low by in
      reaching u c low on-it so.0 (ap (λ (v : State). (rule_p c v).pick) so.1) (ap (λ (v : State). (rule_p c v).state) so.1)

pub course : (call : Call) (s : State) → Invariant s → CourseOf call s (step call s) (reach call s)
course call s k = course_of s k (way call s)
