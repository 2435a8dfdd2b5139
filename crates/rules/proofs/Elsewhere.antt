-- Which records a call leaves as they were: all but that of the slot that it names, or that its core holds, and that of the slot that it
-- answers with. By cases on the ways out of a call. Assumes nothing.
use mathlib.Core.Path.{◌≡◌, refl, sym, ◌∙◌}
use Prim.Native.Nat.{ℕ}
use lib.Seq.{get_or-set_other}
use Rattle.records.specs.declared.task.TaskControlBlock.{TaskControlBlock}
use Rattle.records.specs.Task.{empty_record}
use Rattle.rules.specs.declared.call.Call.{Call}
use Rattle.rules.specs.State.{State, task, with_task}
use Rattle.rules.specs.Outcome.{Outcome, Chosen}
use Rattle.rules.specs.Waking.{free_slot}
use Rattle.rules.specs.Ticking.{gain, requeued}
use Rattle.rules.specs.Step.{step}
use Rattle.rules.specs.Touched.{named_slot, value_slot, picked_or, answered_slot, SameBut}
use Rattle.rules.specs.declared.answer.Value.{Value}
use Rattle.rules.specs.Took.{Reach}
use Rattle.rules.proofs.Ways.{PEnd, picks_one, picks_none, P-way, Requeued, queued, not_queued, requeued_way, Deed, by_create, by_affinity}
use Rattle.rules.proofs.Ways.{by_terminate, by_block, by_wake, by_queueing, Timed, at_once, later, Approach, straight, clearing, slice_ends, yielding}
use Rattle.rules.proofs.Ways.{Way, refuses, tells, does, keeps, comes, way}

-- a record elsewhere than where one is stored
stored-elsewhere : (s : State) (i j : ℕ) (t : TaskControlBlock) → (j ≡ i → ⊥) → task (with_task s i t) j ≡ task s j
stored-elsewhere s i j t other = get_or-set_other s.tasks i j t empty_record other

-- P changes the record of its pick alone
P-stays : (j c : ℕ) (s : State) {o : Chosen} → PEnd s c o → (value : ℕ) → (j ≡ picked_or o.pick value → ⊥) → task o.state j ≡ task s j
P-stays j c s (picks_one p) value other = get_or-set_other s.tasks p.slot.0 j _ empty_record other
P-stays j c s picks_none value other = refl

-- a requeue changes that of its slot alone
queued_stays : (i j : ℕ) {t u : State} → (j ≡ i → ⊥) → Requeued i t u → task u j ≡ task t j
queued_stays i j {t} other queued = stored-elsewhere t i j _ other
queued_stays i j other not_queued = refl

requeued_stays : (i j : ℕ) (s : State) → (j ≡ i → ⊥) → task (requeued i s) j ≡ task s j
requeued_stays i j s other = queued_stays i j other (requeued_way i s) ∙ stored-elsewhere s i j _ other

-- not the slot that is named
abbrev NotNamed : ℕ → Call → State → Type 0
NotNamed j call s = j ≡ named_slot call s → ⊥

not_it : (call : Call) (s : State) {i j : ℕ} → NotNamed j call s → named_slot call s ≡ i → j ≡ i → ⊥
not_it call s other named is = other (is ∙ sym named)

module _ (s : State) (j : ℕ) where
  deed_stays : {call : Call} {v : Value} {t : State} → Deed s call v t → NotNamed j call s → (j ≡ value_slot v → ⊥) → task t j ≡ task s j
  deed_stays (by_create tid band context cr3 rsp0 low) other answered = stored-elsewhere s (free_slot s) j _ answered
  deed_stays (by_affinity i mask low) other answered = stored-elsewhere s i.0 j _ other
  deed_stays (by_terminate i low) other answered = stored-elsewhere s i.0 j _ other
  deed_stays (by_block i here awake) other answered = stored-elsewhere s i.0 j _ other
  deed_stays (by_wake i here was held) other answered = stored-elsewhere s i.0 j _ other
  deed_stays {call} (by_queueing i named here idle) other answered = stored-elsewhere s i j _ (not_it call s other named)

  timed_stays : {u : State} → Timed s u → task u j ≡ task s j
  timed_stays at_once = refl
  timed_stays (later elapsed) = refl

  approach_stays : {call : Call} {c : ℕ} {t u : State} → Approach s call c t u → NotNamed j call s → task t j ≡ task s j
  approach_stays (straight gone) other = timed_stays gone
  approach_stays (clearing gone h is blocked) other = timed_stays gone
  approach_stays {call} (slice_ends elapsed h is named awake ended) other = requeued_stays h.0 j (gain elapsed s) (not_it call s other named)
  approach_stays {call} (yielding h is named runs) other = stored-elsewhere s h.0 j _ (not_it call s other named)

  way_stays : {call : Call} {o : Outcome} {r : Reach} → Way s call o r → NotNamed j call s → (j ≡ answered_slot o.answer → ⊥) → task o.state j ≡ task s j
  way_stays (refuses e why) other answered = refl
  way_stays (tells v of) other answered = refl
  way_stays (does v t deed) other answered = deed_stays deed other answered
  way_stays {call} (keeps how c elapsed h low is named awake on) other answered = stored-elsewhere (gain elapsed s) h.0 j _ (not_it call s other named)
  way_stays (comes how previous c t u low on-it is by) other answered = P-stays j c t (P-way t c low) _ answered ∙ approach_stays by other

-- no record but those of the slot that is named or held, and of the slot that is answered, is changed
pub records_stay : (call : Call) (s : State) → SameBut (named_slot call s) (answered_slot (step call s).answer) s (step call s).state
records_stay call s j other = way_stays s j (way call s) other
