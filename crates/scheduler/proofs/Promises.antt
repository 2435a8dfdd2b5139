-- What a call promises, from what it did. Assumes nothing.
use Rattle.std.proofs.Common.{◌≡◌, ℕ, true, sym, refl, ap, ◌∙◌, subst}
use Rattle.std.specs.Prelude.{Option, None, Some}
use Rattle.records.specs.declared.error.SchedError.{SchedError}
use Rattle.records.specs.declared.ids.Slot.{Slot}
use Rattle.rules.specs.declared.answer.Answer.{Answer}
use Rattle.rules.specs.declared.answer.ContextSwitchTarget.{ContextSwitchTarget}
use Rattle.rules.specs.declared.answer.ContextSwitchTarget.TheVariants.{Idle}
use Rattle.rules.specs.declared.answer.Value.{Value}
use Rattle.rules.specs.declared.answer.Value.TheVariants as value
use Rattle.scheduler.specs.declared.picking.Form.{Form}
use Rattle.scheduler.specs.declared.picking.Form.TheVariants as form
use Rattle.rules.specs.declared.call.Call.{Call}
use Rattle.rules.specs.Accepted.{Accepted, accepts}
use Rattle.rules.specs.Outcome.{Outcome, Chosen, answered, done, refused}
use Rattle.rules.specs.Picking.{no_choice}
use Rattle.rules.specs.State.{State}
use Rattle.rules.specs.Ticking.{target_of, plan_to}
use Rattle.rules.specs.Step.{step}
use Rattle.rules.proofs.Accepts.{accepts_complete}
use Rattle.rules.proofs.Calls.{call-accepted}
use Rattle.rules.proofs.Invariant.{invariant-accepted}
use Rattle.rules.proofs.Moves.{Harmless}
use Rattle.scheduler.specs.declared.scheduler.QoSScheduler.{QoSScheduler}
use Rattle.scheduler.specs.declared.scheduler.Reply.{Reply}
use Rattle.scheduler.specs.Scheduler.{abs, Meets}
use Rattle.scheduler.specs.Private.{told_by, refused_by, Gives, answer_in, slot_of, who_runs}
use Rattle.scheduler.proofs.Arrays.{valid}
use Rattle.scheduler.proofs.Builders.{accepted_as}

-- ---- what is stored is accepted where the state that it holds is

pub unharmed : {s t u : State} → t ≡ u → Harmless (λ (x : ℕ). ⊥) s u → accepts t ≡ true
unharmed {u = u} is f = accepted_as is (invariant-accepted u f.invariant)

-- and the state that the rules make of a call is
pub kept : (call : Call) (s : QoSScheduler) {x : Value} {t : State} → step call (abs s) ≡ done x t → accepts t ≡ true
kept call s {t = t} by = accepts_complete t (subst (λ (o : Outcome). Accepted o.state) by (call-accepted call (abs s) (valid s)))

-- ---- what was given is what the rules make of the call

module _ {call : Call} {s : QoSScheduler} where
  pub meets_given : {o : Outcome} {r : Reply} → Gives o r → step call (abs s) ≡ o → Meets call s r
  meets_given g by = record {
    answer_is = g.answer_is ∙ ap (λ (p : Outcome). p.answer) (sym by);
    state_is = g.state_is ∙ ap (λ (p : Outcome). p.state) (sym by);
  }

  pub meets_told : {x : Value} {t : QoSScheduler} {r : Reply} → r ≡ told_by t x → step call (abs s) ≡ done x (abs t) → Meets call s r
  meets_told is by = rw is (meets_given (record { answer_is = refl; state_is = refl }) by)

  -- what is left holds the same state
  pub meets_left : {e : SchedError} {t : QoSScheduler} {r : Reply} → r ≡ refused_by t e → abs t ≡ abs s → step call (abs s) ≡ refused e (abs s) → Meets call s r
  meets_left is same by = rw is (meets_given (record { answer_is = refl; state_is = same }) by)

  pub meets_refused : {e : SchedError} {r : Reply} → r ≡ refused_by s e → step call (abs s) ≡ refused e (abs s) → Meets call s r
  meets_refused is by = meets_left is refl by

  -- the call goes on as another
  pub meets_as : {other : Call} {r : Reply} → Meets other s r → step call (abs s) ≡ step other (abs s) → Meets call s r
  meets_as m by = meets_given (record { answer_is = m.answer_is; state_is = m.state_is }) by

-- of a call that was matched
pub meets_call : {call other : Call} {s : QoSScheduler} {r : Reply} → call ≡ other → Meets other s r → Meets call s r
meets_call {s = s} {r = r} is m = subst (λ (c : Call). Meets c s r) (sym is) m

-- ---- who is to run, told in a form

slot_of-target : (next : Option Slot) (s : State) → slot_of (target_of next s) ≡ next
slot_of-target None s = refl
slot_of-target (Some n) s = refl

told_so : (f : Form) (c : Chosen) → answered c.pick (who_runs f (target_of c.next c.state)) ≡ (answer_in f c).answer
told_so form.Slot c = ap (λ (n : Option Slot). answered c.pick (value.Slot n)) (slot_of-target c.next c.state)
told_so (form.Plan previous) c =
    ap (λ (n : Option Slot). answered c.pick (value.Plan (plan_to previous n (target_of c.next c.state)))) (slot_of-target c.next c.state)

state_so : (f : Form) (c : Chosen) → c.state ≡ (answer_in f c).state
state_so form.Slot c = refl
state_so (form.Plan previous) c = refl

-- the rules' choice is c, and the code tells it
pub gives-chosen : (f : Form) {rules c : Chosen} {t : ContextSwitchTarget} {a : Answer} {m : QoSScheduler} → rules ≡ c →
    t ≡ target_of c.next c.state → a ≡ answered c.pick (who_runs f t) → abs m ≡ c.state → Gives (answer_in f rules) (record { answer = a; state = m })
gives-chosen f {c = c} comes to answer state =
    rw comes (record {
      answer_is = answer ∙ ap (λ (t : ContextSwitchTarget). answered c.pick (who_runs f t)) to ∙ told_so f c;
      state_is = state ∙ state_so f c;
    })

-- the same choice in the same form, by other ways to both
pub gives_as : {f g : Form} {c d : Chosen} {r : Reply} → f ≡ g → c ≡ d → Gives (answer_in f c) r → Gives (answer_in g d) r
gives_as {r = r} f-is c-is g = subst (λ (o : Outcome). Gives o r) (λ i. answer_in (f-is i) (c-is i)) g

-- nothing was done
pub gives_told : (f : Form) (s : QoSScheduler) {c : Chosen} {t : QoSScheduler} {x : Value} {r : Reply} → c ≡ no_choice (abs s) →
    x ≡ who_runs f Idle → r ≡ told_by t x → abs t ≡ abs s → Gives (answer_in f c) r
gives_told f s comes x-is is same = rw is (gives-chosen f comes refl (ap (answered None) x-is) same)
