-- Demands 2 and 3 on the code: every history is as `CodeClaim` says, by the contracts of its calls and by demand 3 on the rules. Every accepted
-- state, its numbers of any size, is held by some scheduler, so there is a new one, and every list of calls has a history. Assumes nothing.
use mathlib.Core.Path.{◌≡◌, refl, sym, ap, ◌∙◌, subst}
use mathlib.Core.List.{List, [], ◌∷◌, ◌++◌, map}
use Prim.Native.Nat.{ℕ}
use Rattle.rules.specs.declared.answer.Answer.{Answer}
use Rattle.rules.specs.declared.call.Call.{Call}
use Rattle.rules.specs.State.{State, new_state}
use Rattle.rules.specs.Step.{step, run}
use Rattle.rules.specs.Took.{Carries}
use Rattle.rules.specs.Stretch.{Event, events, breaks, picks}
use Rattle.rules.specs.Waiting.{Point}
use Rattle.rules.specs.Longest.{Longest}
use Rattle.rules.proofs.Calls.{new-accepted, call-accepted}
use Rattle.rules.proofs.Stretches.{longest}
use Rattle.rules.proofs.Waiting.{rules_demand3}
use Rattle.scheduler.specs.declared.scheduler.QoSScheduler.{QoSScheduler}
use Rattle.scheduler.specs.declared.scheduler.Reply.{Reply}
use Rattle.scheduler.specs.Scheduler.{abs, Meets, MeetsLent}
use Rattle.scheduler.proofs.Arrays.{valid}
use Rattle.scheduler.proofs.Builders.{stored_as}
use Rattle.claims.specs.History.{Made, History, MadeEither, by_value, lent, Mixed, made_of, left, calls_of, answers_of}
use Rattle.claims.specs.History.{happened, stretch_in, outcome_of, CodePoint, CodeClaim}

-- ---- what a history leaves, and where it is cut

pub left_append : (s : QoSScheduler) (a b : List Made) → left s (a ++ b) ≡ left (left s a) b
unfolding left
left_append s [] b = refl
left_append s (m ∷ a) b = left_append m.reply.state a b

pub history_append : (s : QoSScheduler) (a b : List Made) → History s a → History (left s a) b → History s (a ++ b)
unfolding History left
history_append s [] b h k = k
history_append s (m ∷ a) b h k = (h.0, history_append m.reply.state a b h.1 k)

pub history-cut : (s : QoSScheduler) (a b : List Made) → History s (a ++ b) → History s a × History (left s a) b
unfolding History left
history-cut s [] b h = (tt, h)
history-cut s (m ∷ a) b h =
    let parts : History m.reply.state a × History (left m.reply.state a) b = history-cut m.reply.state a b h.1 in
    ((h.0, parts.0), parts.1)

-- schedulers that hold the same state have the same replies to a call, and so the same histories
meets-alike : {call : Call} {s t : QoSScheduler} {r : Reply} → abs s ≡ abs t → Meets call s r → Meets call t r
meets-alike {call} same m = record {
  answer_is = m.answer_is ∙ ap (λ (u : State). (step call u).answer) same;
  state_is = m.state_is ∙ ap (λ (u : State). (step call u).state) same;
}

pub history-alike : (s t : QoSScheduler) → abs s ≡ abs t → (made : List Made) → History s made → History t made
unfolding History
history-alike s t same [] h = tt
history-alike s t same (a ∷ rest) h = (meets-alike same h.0, h.1)

-- calls made either way are a history, and a history's calls may have been made either way
pub mixed_is : (s : QoSScheduler) (made : List MadeEither) → Mixed s made ≡ History s (map made_of made)
unfolding Mixed History made_of
mixed_is s [] = refl
mixed_is s (by_value call reply ∷ rest) = ap (λ (later : Type 0). Meets call s reply × later) (mixed_is reply.state rest)
mixed_is s (lent call answer after ∷ rest) = ap (λ (later : Type 0). MeetsLent call s answer after × later) (mixed_is after rest)

-- ---- its states, answers and events are the rules'

pub left_is : (s : QoSScheduler) (made : List Made) → History s made → abs (left s made) ≡ run (calls_of made) (abs s)
unfolding History left run
left_is s [] h = refl
left_is s (a ∷ rest) h = left_is a.reply.state rest h.1 ∙ ap (run (calls_of rest)) h.0.state_is

-- the rules' answers to calls, one after the other
abbrev pub answers_from : List Call → State → List Answer
answers_from calls s = map (λ (e : Event). e.answer) (events calls s)

pub answers_are : (s : QoSScheduler) (made : List Made) → History s made → answers_of made ≡ answers_from (calls_of made) (abs s)
unfolding History events
answers_are s [] h = refl
answers_are s (a ∷ rest) h =
    λ i. h.0.answer_is i ∷ (answers_are a.reply.state rest h.1 ∙ ap (answers_from (calls_of rest)) h.0.state_is) i

pub happened-is : (s : QoSScheduler) (made : List Made) → History s made → happened s made ≡ events (calls_of made) (abs s)
unfolding History happened events
happened-is s [] h = refl
happened-is s (a ∷ rest) h =
    let later : happened a.reply.state rest ≡ events (calls_of rest) (step a.call (abs s)).state =
    happened-is a.reply.state rest h.1 ∙ ap (events (calls_of rest)) h.0.state_is in
    λ i. record { call = a.call; found = abs s; answer = h.0.answer_is i } ∷ later i

-- one event for each call, in their order
pub happened-calls : (s : QoSScheduler) (made : List Made) → map (λ (e : Event). e.call) (happened s made) ≡ calls_of made
unfolding happened
happened-calls s [] = refl
happened-calls s (a ∷ rest) = ap (λ (l : List Call). a.call ∷ l) (happened-calls a.reply.state rest)

outcome_is : {call : Call} {s : QoSScheduler} {r : Reply} → Meets call s r → outcome_of r ≡ step call (abs s)
outcome_is m = λ i. record { answer = m.answer_is i; state = m.state_is i }

-- the next call keeps its contract
next-meets : (s : QoSScheduler) (next : List Made) → History s next → (a : Made) (more : List Made) → next ≡ a ∷ more →
    Meets a.call s a.reply
unfolding History
next-meets s next h a more is = (subst (History s) is h).0

-- ---- demand 3

-- what is claimed of the rules at a point, told of the scheduler there
rules_there : (s : QoSScheduler) (past next : List Made) → History s past → Point (abs (left s past)) (calls_of next)
rules_there s past next h =
    rw (left_is s past h) (rules_demand3 (abs s) (valid s) (calls_of past ++ calls_of next) (calls_of past) (calls_of next) refl)

code_point : (s : QoSScheduler) (past next : List Made) → History s past → History (left s past) next →
    CodePoint (abs s) (calls_of past) (left s past) next
code_point s past next before after =
    let here : QoSScheduler = left s past in
    let rules : Point (abs here) (calls_of next) = rules_there s past next before in
    let meets : (a : Made) (more : List Made) → next ≡ a ∷ more → Meets a.call here a.reply = next-meets here next after in
    record {
      accepted = valid here;
      states = left_is s past before;
      answers = λ a more is. (meets a more is).answer_is ∙ ap (λ (t : State). (step a.call t).answer) (left_is s past before);
      carried = λ a more is.
          subst (Carries a.call (abs here)) (sym (outcome_is (meets a more is))) (rules.carried a.call (calls_of more) (ap calls_of is));
      consumed = rules.consumed;
      stands = rules.stands;
      waiting = λ x ready. rw (happened-is here next after) (rules.waiting x ready);
    }

pub code_demand3 : (s : QoSScheduler) (made : List Made) → History s made → CodeClaim (abs s) s made
code_demand3 s made h past next cut =
    let parts : History s past × History (left s past) next = history-cut s past next (subst (History s) (sym cut) h) in
    code_point s past next parts.0 parts.1

-- X's stretch in a history is as long as can be
pub stretch_in-longest : (x : ℕ) (s : QoSScheduler) (next : List Made) → Longest (breaks x) (picks x) (happened s next) (stretch_in x s next)
stretch_in-longest x s next = longest (breaks x) (picks x) (happened s next)

-- ---- every accepted state is held by some scheduler, and every list of calls has a history

pub a_new_one : (s : QoSScheduler) × (abs s ≡ new_state)
a_new_one = stored_as new_state new-accepted

-- every call has a reply that keeps its contract
pub a_reply : (s : QoSScheduler) (call : Call) → (r : Reply) × Meets call s r
a_reply s call =
    let end : State = (step call (abs s)).state in
    let t : (t : QoSScheduler) × (abs t ≡ end) = stored_as end (call-accepted call (abs s) (valid s)) in
    (record { answer = (step call (abs s)).answer; state = t.0 }, record { answer_is = refl; state_is = t.1 })

pub every_list_happens : (s : QoSScheduler) (calls : List Call) → (made : List Made) × (History s made × (calls_of made ≡ calls))
unfolding History
every_list_happens s [] = ([], (tt, refl))
every_list_happens s (call ∷ calls) =
    let first : (r : Reply) × Meets call s r = a_reply s call in
    let later : (made : List Made) × (History first.0.state made × (calls_of made ≡ calls)) = every_list_happens first.0.state calls in
    (record { call = call; reply = first.0 } ∷ later.0, ((first.1, later.1.0), ap (λ (l : List Call). call ∷ l) later.1.1))
