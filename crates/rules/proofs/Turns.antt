-- One call, seen by an X that waits and whose conditions the call does not break: nobody is picked from a later band, and unless X is picked it
-- waits on, behind fewer. Assumes nothing.
use mathlib.Core.Path.{◌≡◌, refl, sym, ap, ◌∙◌, subst}
use mathlib.Core.Bool.{Bool, true, false, cond, not, ◌&&◌, true≢false}
use mathlib.Core.List
use mathlib.Core.List.{List, ◌∷◌, Sublistᴰ}
use Prim.Native.Nat.{ℕ, ◌≤◌, ◌<◌}
use native.Mathlib.Omega.{arith}
use borrow.Author.Tests.{lt-ltb, leb-true, leb-false, eqb-true, eqb-false, eq-eqb}
use lib.Dec.{ltb, leb, eqb}
use Rattle.std.specs.Prelude.{Option, None, Some}
use Rattle.records.specs.declared.band.QoSClass.{QoSClass}
use Rattle.records.specs.declared.state.ThreadState.TheVariants.{Ready}
use Rattle.records.specs.Band.{band_code}
use Rattle.records.specs.Lists.{count}
use Rattle.records.specs.Mask.{permits}
use Rattle.records.proofs.Bands.{band_code_one}
use Rattle.records.proofs.Cases.{split}
use Rattle.queue.specs.Entries.{taken_at}
use Rattle.rules.specs.declared.call.Call.{Call}
use Rattle.rules.specs.declared.answer.Pick.{Pick}
use Rattle.rules.specs.State.{State, task, queue}
use Rattle.rules.specs.Picking.{permitted, place_for, first_permitted, after_pick, rule_p, schedule}
use Rattle.rules.specs.Step.{step}
use Rattle.rules.specs.Took.{Reach}
use Rattle.rules.specs.Stretch.{event_of, Concern, changes, names, concern, breaks_for, is_pick, others_in, before}
use Rattle.rules.specs.Waiting.{SchedulePicks}
use Rattle.rules.proofs.Course.{Course, quiet, reaching, course}
use Rattle.rules.proofs.Invariant.{Invariant}
use Rattle.rules.proofs.Moves.{Alike, Undisturbed, in_queue}
use Rattle.rules.proofs.Parts.{of_band_with}
use Rattle.rules.proofs.Picks.{Choice, taken, none, choice-is, not_overlooked, pick_order, pick_held, P-below}

-- X waits on: its record is alike, and whoever of its band was picked, and then those still before it, stood before it in that order
pub record WaitsOn (x : ℕ) (s : State) (o : Option Pick) (t : State) : Type 0 where
  pub alike : Alike (task t x) (task s x)
  pub order : Sublistᴰ (others_in (task s x).qos x o (before x (queue t (task s x).qos))) (before x (queue s (task s x).qos))

pub record Turn (x : ℕ) (s : State) (o : Option Pick) (t : State) : Type 0 where
  pub bands : (p : Pick) → o ≡ Some p → band_code p.band ≤ band_code (task s x).qos
  pub goes : is_pick x o ≡ false → WaitsOn x s o t

turn-quiet : (x : ℕ) (s t : State) → Undisturbed x s t → Turn x s None t
turn-quiet x s t c = record {
  bands = λ p e. let no : ◌≡◌ {A = ℕ} 0 1 = cc in absurd (omega arith);
  goes = λ _. record { alike = c.alike; order = c.order };
}

-- a call that first changes other things
turn-after : (x : ℕ) (s t u : State) (o : Option Pick) → Undisturbed x s t → Turn x t o u → Turn x s o u
turn-after x s t u o c r = record {
  bands = λ p e. subst (λ (b : QoSClass). band_code p.band ≤ band_code b) c.alike.band (r.bands p e);
  goes = λ not-x.
      let w : WaitsOn x t o u = r.goes not-x in
      record {
        alike = record { state = w.alike.state ∙ c.alike.state; band = w.alike.band ∙ c.alike.band; mask = w.alike.mask ∙ c.alike.mask };
        order = List.Sublistᴰ.trans (subst (λ (b : QoSClass). Sublistᴰ (others_in b x o (before x (queue u b))) (before x (queue t b)))
            c.alike.band w.order) c.order;
      };
}

-- P on a core that X may use
module _ (s : State) (k : Invariant s) (x : ℕ) (ready : (task s x).state ≡ Ready) (c : ℕ) (low : c < 64) (may : permitted s c x ≡ true) where
  abbrev mine : QoSClass
  mine = (task s x).qos

  -- one was chosen
  module _ (p : Pick) (is : first_permitted s c p.band ≡ Some p.slot)
      (earlier : (b : QoSClass) → band_code b < band_code p.band → first_permitted s c b ≡ None) where
    abbrev i : ℕ
    i = p.slot.0

    abbrev rest : List ℕ
    rest = taken_at (place_for s c p.band) (queue s p.band)

    abbrev t : State
    t = (after_pick s c (Some p)).state

    not_behind : band_code p.band ≤ band_code mine
    not_behind =
        split (λ _. band_code p.band ≤ band_code mine) (leb (band_code p.band) (band_code mine))
        (λ so. leb-true (band_code p.band) (band_code mine) so)
        (λ later. absurd (not_overlooked s c mine x may (in_queue s k x ready) (earlier mine (leb-false (band_code p.band) (band_code mine) later))))

    own_band : (x ≡ i → ⊥) → p.band ≡ mine → Sublistᴰ (i ∷ before x (queue t mine)) (before x (queue s mine))
    own_band other same =
        let there : 1 ≤ count x (queue s p.band) = subst (λ (b : QoSClass). 1 ≤ count x (queue s b)) (sym same) (in_queue s k x ready) in
        let left : Sublistᴰ (i ∷ before x (queue t p.band)) (before x (queue s p.band)) =
        rw (of_band_with s.queues p.band rest) (pick_order s k c p is x other may there) in
        subst (λ (b : QoSClass). Sublistᴰ (i ∷ before x (queue t b)) (before x (queue s b))) same left

    waits_behind : eqb i x ≡ false → WaitsOn x s (Some p) t
    waits_behind differs =
        let other : x ≡ i → ⊥ = λ same. eqb-false i x differs (sym same) in
        let calm : Undisturbed x s t = (pick_held s k c p is low).undisturbed x (other, may) ready in
        record {
          alike = calm.alike;
          order = rw differs (
              split (λ (b : Bool). Sublistᴰ (cond (b && true) (i ∷ before x (queue t mine)) (before x (queue t mine))) (before x (queue s mine)))
              (eqb (band_code p.band) (band_code mine))
              (λ same. own_band other (band_code_one p.band mine (eqb-true (band_code p.band) (band_code mine) same)))
              (λ _. calm.order));
        }

    turn_taken : Turn x s (Some p) t
    turn_taken =
        record { bands = λ q e. let same : p ≡ q = cc in subst (λ (r : Pick). band_code r.band ≤ band_code mine) same not_behind; goes = waits_behind }

  turn_pick : {o : Option Pick} → Choice s c o →
      Turn x s (after_pick s c o).pick (after_pick s c o).state × ((p : Pick) × ((after_pick s c o).pick ≡ Some p))
  turn_pick (none empty) = absurd (not_overlooked s c mine x may (in_queue s k x ready) (empty mine))
  turn_pick (taken p is earlier) = (turn_taken p is earlier, (p, refl))

  turn_P : Turn x s (rule_p c s).pick (rule_p c s).state × ((p : Pick) × ((rule_p c s).pick ≡ Some p))
  turn_P = rw (P-below s c low) (turn_pick (choice-is s c))

-- ---- one call of a stretch

-- what it means for X that a call does not break its conditions
left_alone : (x mask : ℕ) (k : Concern) → breaks_for x mask k ≡ false → k ≡ changes x → ⊥
left_alone x mask k unbroken is = true≢false (sym (eq-eqb x x refl) ∙ ap (breaks_for x mask) (sym is) ∙ unbroken)

may_use : (x mask : ℕ) (k : Concern) (c : ℕ) → breaks_for x mask k ≡ false → k ≡ names c → c < 64 → permits mask c ≡ true
may_use x mask k c unbroken is low =
    split (λ (b : Bool). ltb c 64 && not b ≡ false → b ≡ true) (permits mask c)
    (λ _ _. refl)
    (λ _ e. absurd (true≢false (ap (λ (b : Bool). b && true) (sym (lt-ltb c 64 low)) ∙ e)))
    (ap (breaks_for x mask) (sym is) ∙ unbroken)

module _ (s : State) (k : Invariant s) (x : ℕ) (ready : (task s x).state ≡ Ready) (call : Call)
    (unbroken : breaks_for x (task s x).cpu_affinity (concern call) ≡ false) where
  abbrev mask : ℕ
  mask = (task s x).cpu_affinity

  alone : concern call ≡ changes x → ⊥
  alone = left_alone x mask (concern call) unbroken

  turn_course : {o : Option Pick} {t : State} {r : Reach} → Course call s o t r → Turn x s o t
  turn_course {o} {t} (quiet no-pick f) = subst (λ (q : Option Pick). Turn x s q t) (sym no-pick) (turn-quiet x s t (f.undisturbed x alone ready))
  turn_course {o} {t} (reaching u c low on-it f p-is end_is) =
      let calm : Undisturbed x s u = f.undisturbed x alone ready in
      let may : permitted u c x ≡ true = ap (λ (m : ℕ). permits m c) calm.alike.mask ∙ may_use x mask (concern call) c unbroken on-it low in
      let by-P : Turn x u (rule_p c u).pick (rule_p c u).state = (turn_P u f.invariant x (calm.alike.state ∙ ready) c low may).0 in
      let whole : Turn x s (rule_p c u).pick (rule_p c u).state = turn-after x s u (rule_p c u).state (rule_p c u).pick calm by-P in
      subst (λ (q : Option Pick). Turn x s q t) (sym p-is) (subst (λ (v : State). Turn x s (rule_p c u).pick v) (sym end_is) whole)

  pub turn : Turn x s (step call s).answer.pick (step call s).state
  turn = turn_course (course call s k)

  pub schedule_picks : SchedulePicks (event_of call s)
  unfolding schedule
  schedule_picks c is low =
      let found : (p : Pick) × ((rule_p c s).pick ≡ Some p) = (turn_P s k x ready c low (may_use x mask (concern call) c unbroken (ap concern is) low)).1 in
      (found.0, ap (λ (q : Call). (step q s).answer.pick) is ∙ found.1)
