-- What holds of every call, and so of every list of calls: acceptance is kept, and the pick that an answer carries is the one that P made.
-- Assumes nothing.
use mathlib.Core.Path.{◌≡◌, refl, sym, ◌∙◌, subst}
use mathlib.Core.Bool.{false}
use mathlib.Core.List.{List, [], ◌∷◌}
use Prim.Native.Nat.{ℕ, ◌<◌}
use native.Mathlib.Omega.{arith}
use Rattle.std.specs.Prelude.{Option}
use Rattle.rules.specs.declared.answer.Pick.{Pick}
use Rattle.records.specs.declared.band.QoSClass.{QoSClass}
use Rattle.records.specs.declared.state.ThreadState.TheVariants.{Ready}
use Rattle.records.specs.ThreadState.{is_state}
use Rattle.records.specs.Lists.{every, every_below, count}
use Rattle.queue.specs.Entries.{full}
use Rattle.rules.specs.declared.call.Call.{Call}
use Rattle.rules.specs.State.{State, new_state, task, queue}
use Rattle.rules.specs.Accepted.{Accepted, accepts}
use Rattle.rules.specs.Picking.{rule_p}
use Rattle.rules.specs.Step.{step, run}
use Rattle.rules.specs.Took.{Reach, reaches, taken_by, Carries}
use Rattle.rules.proofs.Accepts.{accepts_sound}
use Rattle.rules.proofs.Course.{Course, quiet, reaching, course}
use Rattle.rules.proofs.Invariant.{Invariant, invariant-accepted, accepted-invariant, never_full}
use Rattle.rules.proofs.Picks.{P-invariant}

-- new is accepted: the test says so
pub new-accepted : Accepted new_state
unfolding accepts every every_below count
new-accepted = accepts_sound new_state refl

-- ---- every call keeps acceptance

invariant_by : {call : Call} {s : State} {p : Option Pick} {end : State} {r : Reach} → Course call s p end r → Invariant end
invariant_by (quiet no-pick f) = f.invariant
invariant_by (reaching t c low on-it f p-is end_is) = subst Invariant (sym end_is) (P-invariant t f.invariant c low)

pub call-invariant : (call : Call) (s : State) → Invariant s → Invariant (step call s).state
call-invariant call s k = invariant_by (course call s k)

pub run-invariant : (calls : List Call) (s : State) → Invariant s → Invariant (run calls s)
unfolding run
run-invariant [] s k = k
run-invariant (call ∷ calls) s k = run-invariant calls (step call s).state (call-invariant call s k)

-- "Every state reached from new or an accepted image is again accepted"
pub call-accepted : (call : Call) (s : State) → Accepted s → Accepted (step call s).state
call-accepted call s a = invariant-accepted (step call s).state (call-invariant call s (accepted-invariant s a))

pub run-accepted : (calls : List Call) (s : State) → Accepted s → Accepted (run calls s)
run-accepted calls s a = invariant-accepted (run calls s) (run-invariant calls s (accepted-invariant s a))

-- no slot to be queued finds 64 entries in a queue
pub room_in_queue : (s : State) → Accepted s → (band : QoSClass) (slot : ℕ) → slot < 64 → is_state (task s slot).state Ready ≡ false →
    full (queue s band) ≡ false
room_in_queue s a = never_full s (accepted-invariant s a)

-- ---- the pick carried is P's

carried_by : {call : Call} {s : State} {p : Option Pick} {end : State} {r : Reach} → Course call s p end r → p ≡ taken_by r
carried_by (quiet no-pick f) = no-pick
carried_by (reaching t c low on-it f p-is end_is) = p-is

ended_by : {call : Call} {s : State} {p : Option Pick} {end : State} {r : Reach} → Course call s p end r → (t : State) (c : ℕ) →
    r ≡ reaches t c → end ≡ (rule_p c t).state
ended_by (quiet no-pick f) t c is = let no : ◌≡◌ {A = ℕ} 0 1 = cc in absurd (omega arith)
ended_by (reaching u d low on-it f p-is end_is) t c is =
    let from : u ≡ t = cc in
    let on : d ≡ c = cc in
    end_is ∙ (λ i. (rule_p (on i) (from i)).state)

pub carries : (call : Call) (s : State) → Accepted s → Carries call s (step call s)
carries call s a =
    let followed = course call s (accepted-invariant s a) in
    record { pick_is = carried_by followed; state_is = ended_by followed }
