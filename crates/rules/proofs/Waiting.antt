-- Demand 3 on the rules: along X's stretch, those who are picked from X's band are a part of those before X, in their order. Assumes nothing.
use mathlib.Core.Path.{◌≡◌, refl, ap, ◌∙◌, subst}
use mathlib.Core.Bool.{Bool, true, false, cond, not, ◌&&◌}
use mathlib.Core.List.Sublistᴰ
use mathlib.Core.List.{List, [], ◌∷◌, ◌++◌, Sublistᴰ}
use Prim.Native.Nat.{ℕ, ◌≤◌}
use native.Mathlib.Omega.{arith}
use lib.Dec.{eqb}
use Rattle.std.specs.Prelude.{Option, None, Some}
use Rattle.rules.specs.declared.answer.Pick.{Pick}
use Rattle.records.specs.declared.band.QoSClass.{QoSClass}
use Rattle.records.specs.declared.state.ThreadState.TheVariants.{Ready}
use Rattle.records.specs.Band.{band_code}
use Rattle.records.specs.Lists.{Each, count}
use Rattle.records.proofs.Cases.{split}
use Rattle.queue.proofs.Counts.{count_append}
use Rattle.rules.specs.declared.call.Call.{Call}
use Rattle.rules.specs.State.{State, new_state, task, queue}
use Rattle.rules.specs.Accepted.{Accepted}
use Rattle.rules.specs.Step.{step, run}
use Rattle.rules.specs.Stretch.{Event, event_of, events, breaks, is_pick, picks, stretch, stretch_of, others_in, others, before, ahead}
use Rattle.rules.specs.Waiting.{SchedulePicks, NotBehind, Point, Claim}
use Rattle.rules.proofs.Calls.{new-accepted, call-invariant, run-invariant, carries}
use Rattle.rules.proofs.Invariant.{Invariant, invariant-accepted, accepted-invariant, entry_once}
use Rattle.rules.proofs.Lists.{sub_length, sub_count, before-cut}
use Rattle.rules.proofs.Moves.{in_queue}
use Rattle.rules.proofs.Turns.{WaitsOn, Turn, turn, schedule_picks}

-- ---- the stretch

record Bound (band : QoSClass) (x : ℕ) (entries : List ℕ) (es : List Event) : Type 0 where
  schedules : Each SchedulePicks es
  bands : Each (NotBehind band) es
  in_order : Sublistᴰ (others band x es) entries

no_calls : (band : QoSClass) (x : ℕ) (entries : List ℕ) → Bound band x entries []
unfolding Each others
no_calls band x entries = record { schedules = tt; bands = tt; in_order = Sublistᴰ.nil-sublist entries }

-- fewer behind an event are fewer with it
others_sub : (band : QoSClass) (x : ℕ) (o : Option Pick) {a b : List ℕ} → Sublistᴰ a b → Sublistᴰ (others_in band x o a) (others_in band x o b)
others_sub band x None h = h
others_sub band x (Some p) {a} {b} h =
    split (λ (t : Bool). Sublistᴰ (cond t (p.slot.0 ∷ a) a) (cond t (p.slot.0 ∷ b) b))
    (eqb (band_code p.band) (band_code band) && not (eqb p.slot.0 x))
    (λ _. Sublistᴰ.cons-cons refl h)
    (λ _. h)

-- X itself is not one of the others
others-own : (band : QoSClass) (x : ℕ) (o : Option Pick) (later : List ℕ) → is_pick x o ≡ true → others_in band x o later ≡ later
others-own band x None later is = refl
others-own band x (Some p) later is =
    rw is (split (λ (t : Bool). cond (t && false) (p.slot.0 ∷ later) later ≡ later) (eqb (band_code p.band) (band_code band)) (λ _. refl) (λ _. refl))

-- one event more in front, after which X waits on
waits_on : (x : ℕ) (s t : State) (e : Event) (es : List Event) → (task s x).state ≡ Ready → SchedulePicks e → Turn x s e.answer.pick t →
    WaitsOn x s e.answer.pick t → ((task t x).state ≡ Ready → Bound (task t x).qos x (ahead t x) es) →
    Bound (task s x).qos x (ahead s x) (e ∷ es)
unfolding others Each
waits_on x s t e es ready picks-so here w later =
    let on : Bound (task s x).qos x (before x (queue t (task s x).qos)) es =
    subst (λ (b : QoSClass). Bound b x (before x (queue t b)) es) w.alike.band (later (w.alike.state ∙ ready)) in
    record {
      schedules = (picks-so, on.schedules);
      bands = (here.bands, on.bands);
      in_order = Sublistᴰ.trans (others_sub (task s x).qos x e.answer.pick on.in_order) w.order;
    }

bound : (next : List Call) (s : State) → Invariant s → (x : ℕ) → (task s x).state ≡ Ready → Bound (task s x).qos x (ahead s x) (stretch_of x s next)
unfolding events stretch others Each
bound [] s k x ready = no_calls (task s x).qos x (ahead s x)
bound (call ∷ next) s k x ready =
    let band : QoSClass = (task s x).qos in
    let t : State = (step call s).state in
    let o : Option Pick = (step call s).answer.pick in
    let e : Event = event_of call s in
    let Holds : List Event → Type 0 = Bound band x (ahead s x) in
    split (λ (b : Bool). Holds (cond b [] (e ∷ cond (picks x e) [] (stretch_of x t next)))) (breaks x e)
    (λ _. no_calls band x (ahead s x))
    (λ unbroken.
    let here : Turn x s o t = turn s k x ready call unbroken in
    let picks-so : SchedulePicks e = schedule_picks s k x ready call unbroken in
    split (λ (b : Bool). Holds (e ∷ cond b [] (stretch_of x t next))) (picks x e)
    (λ own. record { schedules = (picks-so, tt); bands = (here.bands, tt); in_order = rw (others-own band x o [] own) (Sublistᴰ.nil-sublist (ahead s x)) })
    (λ not-x. waits_on x s t e (stretch_of x t next) ready picks-so here (here.goes not-x) (λ still. bound next t (call-invariant call s k) x still)))

-- ---- demand 3

point : (s : State) → Invariant s → (next : List Call) → Point s next
point s k next = record {
  consumed = λ slot. (k.good slot).consumed;
  carried = λ call _ _. carries call s (invariant-accepted s k);
  stands = λ x ready. before-cut x (queue s (task s x).qos) (in_queue s k x ready);
  waiting = λ x ready.
      let b : Bound (task s x).qos x (ahead s x) (stretch_of x s next) = bound next s k x ready in
      let band : QoSClass = (task s x).qos in
      let part : List ℕ = others band x (stretch_of x s next) in
      record {
        schedules = b.schedules;
        bands = b.bands;
        at_most = sub_length b.in_order;
        among = λ slot h. let more : 1 ≤ count slot (ahead s x) = omega (arith, sub_count slot b.in_order) in more;
        once = λ slot.
            let whole : (rest : List ℕ) × (queue s band ≡ ahead s x ++ x ∷ rest) = before-cut x (queue s band) (in_queue s k x ready) in
            omega (arith, sub_count slot b.in_order, entry_once s k band slot, ap (count slot) whole.1, count_append slot (ahead s x) (x ∷ whole.0));
        in_order = b.in_order;
      };
}

-- from every accepted state
pub rules_demand3 : (s : State) → Accepted s → (calls : List Call) → Claim s calls
rules_demand3 s a calls past next cut-here = point (run past s) (run-invariant past s (accepted-invariant s a)) next

-- from new
pub rules_demand3_new : (calls : List Call) → Claim new_state calls
rules_demand3_new calls = rules_demand3 new_state new-accepted calls
