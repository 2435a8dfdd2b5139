-- Refusals: a refusal is the whole outcome, no pick, no value, the state as it was; and in an accepted state no call is refused because 64 entries
-- stand in a queue. By cases on the ways out of a call. Assumes nothing.
use mathlib.Core.Path.{◌≡◌, refl, sym, ◌∙◌, subst}
use mathlib.Core.Bool.{true≢false}
use Prim.Native.Nat.{ℕ}
use native.Mathlib.Omega.{arith}
use Rattle.std.specs.Prelude.{Result, Ok, Err}
use Rattle.records.specs.declared.error.SchedError.{SchedError}
use Rattle.records.specs.declared.error.SchedError.TheVariants.{QueueFull}
use Rattle.records.specs.Error.{error_code}
use Rattle.rules.specs.declared.call.Call.{Call}
use Rattle.rules.specs.Accepted.{Accepted}
use Rattle.rules.specs.Outcome.{Outcome, refused}
use Rattle.rules.specs.State.{State, task}
use Rattle.rules.specs.Step.{step}
use Rattle.rules.specs.Took.{Reach}
use Rattle.rules.proofs.Calls.{room_in_queue}
use Rattle.rules.proofs.Effects.{present}
use Rattle.rules.proofs.Ways.{Refusal, by_table, by_full_queue, by_free_holder, Way, refuses, tells, does, keeps, comes, way}

-- what is done is not refused
not_done : {A : Type 0} {e : SchedError} → ◌≡◌ {A = Result Unit SchedError} (Ok tt) (Err e) → A
not_done is = let no : ◌≡◌ {A = ℕ} 0 1 = cc in absurd (omega arith)

-- the way out of a call that is refused
refused_way : {s : State} {call : Call} {o : Outcome} {r : Reach} → Way s call o r → (e : SchedError) → o.answer.status ≡ Err e →
    (o ≡ refused e s) × Refusal s e r
refused_way {s} {r = r} (refuses f why) e is = let same : f ≡ e = cc in subst (λ (g : SchedError). (refused f s ≡ refused g s) × Refusal s g r) same (refl, why)
refused_way (tells v of) e is = not_done is
refused_way (does v t deed) e is = not_done is
refused_way (keeps how c elapsed h low held named awake on) e is = not_done is
refused_way (comes how previous c t u low on-it held by) e is = not_done is

-- "A refusal changes no state", makes no pick and has no value
pub refused-whole : (call : Call) (s : State) (e : SchedError) → (step call s).answer.status ≡ Err e → step call s ≡ refused e s
refused-whole call s e is = (refused_way (way call s) e is).0

-- number 2 is never answered
pub never_2 : (call : Call) (s : State) → Accepted s → (step call s).answer.status ≡ Err QueueFull → ⊥
never_2 call s a is = by_refusal (refused_way (way call s) QueueFull is).1 refl
  where
    by_refusal : {e : SchedError} {r : Reach} → Refusal s e r → error_code e ≡ 2 → ⊥
    by_refusal (by_table other) two = other two
    by_refusal (by_full_queue i here idle none_left) two = true≢false (sym none_left ∙ room_in_queue s a (task s i).qos i (present s i here).0 idle)
    by_refusal (by_free_holder c h held lost) two = omega arith
