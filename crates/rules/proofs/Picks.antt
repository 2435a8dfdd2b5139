-- Rule P: it keeps acceptance; it picks nobody only where no queue has a permitted entry; and where X waits and may use the core, it picks X or
-- somebody whom X must let pass: from an earlier band, or from before X in X's own. Assumes nothing.
use mathlib.Core.Path.{◌≡◌, refl, sym, ap, ◌∙◌, subst}
use mathlib.Core.Bool.{Bool, true, false, not}
use mathlib.Core.List.Sublistᴰ as ListSublistᴰ
use mathlib.Core.List.{List, [], ◌∷◌, ◌++◌, Sublistᴰ}
use mathlib.Core.Logic.{inl, inr}
use Prim.Native.Nat.{ℕ, ◌+◌, ◌≤◌, ◌<◌}
use native.Mathlib.Omega.{arith}
use borrow.Author.Tests.{le-leb, lt-leb}
use lib.ListN.{length, get_or}
use lib.Seq.{get_or-set_same, get_or-append_seam}
use Rattle.std.specs.Prelude.{Option, None, Some}
use Rattle.records.specs.declared.ids.Slot.{Slot}
use Rattle.records.specs.declared.band.QoSClass.{QoSClass}
use Rattle.records.specs.declared.band.QoSClass.TheVariants.{UserInteractive, RealTimeIO, Background}
use Rattle.records.specs.declared.state.ThreadState.{ThreadState}
use Rattle.records.specs.declared.state.ThreadState.TheVariants.{Terminated}
use Rattle.records.specs.Band.{band_code}
use Rattle.records.specs.Lists.{count}
use Rattle.records.specs.ThreadState.{is_state}
use Rattle.records.specs.Task.{empty_record, picked}
use Rattle.records.proofs.Bands.{slice_positive}
use Rattle.records.proofs.Cases.{split}
use Rattle.queue.specs.Entries.{taken_at}
use Rattle.queue.proofs.Counts.{count_one, count_other, count-taken, count-entry}
use Rattle.queue.proofs.Entries.{entry_at-some, entry_at-none, taken_at-cut}
use Rattle.rules.specs.declared.answer.Pick.{Pick}
use Rattle.rules.specs.State.{State, none_byte, band_order, task, with_band, queue, with_task}
use Rattle.rules.specs.Accepted.{ReadyOf, MayHold}
use Rattle.rules.specs.Outcome.{Chosen}
use Rattle.rules.specs.Picking.{permitted, place_for, first_permitted, found_in, choice, leaves, after_pick, no_choice, rule_p}
use Rattle.rules.specs.Stretch.{before}
use Rattle.rules.proofs.Invariant.{Invariant, due-small, due_not, entry_ready, ready_in_table}
use Rattle.rules.proofs.Lists.{Cut, cut, first_place-found, passed}
use Rattle.rules.proofs.Moves.{Harmless, then, move, hold}
use Rattle.rules.proofs.Parts.{each-queue}

-- ---- whom P chooses

pub data Choice (s : State) (core : ℕ) : Option Pick → Type 0 where
  -- the first permitted entry of its band, where no earlier band has one
  taken : (p : Pick) → first_permitted s core p.band ≡ Some p.slot →
      ((b : QoSClass) → band_code b < band_code p.band → first_permitted s core b ≡ None) → Choice s core (Some p)
  -- no band has one
  none : ((b : QoSClass) → first_permitted s core b ≡ None) → Choice s core None

before-first : (P : QoSClass → Type 0) (b : QoSClass) → band_code b < 0 → P b
before-first P b h = absurd (omega arith)

before-second : (P : QoSClass → Type 0) → P UserInteractive → (b : QoSClass) → band_code b < 1 → P b
before-second P u UserInteractive h = u
before-second P u RealTimeIO h = absurd (omega arith)
before-second P u Background h = absurd (omega arith)

before-third : (P : QoSClass → Type 0) → P UserInteractive → P RealTimeIO → (b : QoSClass) → band_code b < 2 → P b
before-third P u r UserInteractive h = u
before-third P u r RealTimeIO h = r
before-third P u r Background h = absurd (omega arith)

every-band : (P : QoSClass → Type 0) → P UserInteractive → P RealTimeIO → P Background → (b : QoSClass) → P b
every-band P u r b UserInteractive = u
every-band P u r b RealTimeIO = r
every-band P u r b Background = b

pub choice-is : (s : State) (core : ℕ) → Choice s core (choice s core band_order)
unfolding choice
choice-is s core = go (first_permitted s core UserInteractive) (first_permitted s core RealTimeIO) (first_permitted s core Background) refl refl refl
  where
    Empty : QoSClass → Type 0
    Empty b = first_permitted s core b ≡ None

    go : (u r b : Option Slot) → first_permitted s core UserInteractive ≡ u → first_permitted s core RealTimeIO ≡ r →
        first_permitted s core Background ≡ b →
        Choice s core (found_in UserInteractive u (found_in RealTimeIO r (found_in Background b None)))
    go (Some e) r b is-u is-r is_b = taken (record { slot = e; band = UserInteractive }) is-u (before-first Empty)
    go None (Some e) b is-u is-r is_b = taken (record { slot = e; band = RealTimeIO }) is-r (before-second Empty is-u)
    go None None (Some e) is-u is-r is_b = taken (record { slot = e; band = Background }) is_b (before-third Empty is-u is-r)
    go None None None is-u is-r is_b = none (every-band Empty is-u is-r is_b)

-- a permitted entry that waits is not overlooked
pub not_overlooked : (s : State) (core : ℕ) (b : QoSClass) (x : ℕ) → permitted s core x ≡ true → 1 ≤ count x (queue s b) →
    first_permitted s core b ≡ None → ⊥
not_overlooked s core b x may there missed =
    absurd (omega (arith, first_place-found (permitted s core) (queue s b) x may there, entry_at-none (place_for s core b) (queue s b) missed))

-- ---- what a pick leaves

module _ (s : State) (k : Invariant s) (core : ℕ) (p : Pick) (is : first_permitted s core p.band ≡ Some p.slot) where
  abbrev i : ℕ
  i = p.slot.0

  abbrev es : List ℕ
  es = queue s p.band

  abbrev place : ℕ
  place = place_for s core p.band

  abbrev rest : List ℕ
  rest = taken_at place es

  here : (place < length es) × (get_or es place 0 ≡ i)
  here = entry_at-some place es p.slot is

  counted : 1 ≤ count i es
  counted = subst (λ (n : ℕ). 1 ≤ count n es) here.1 (count-entry place es here.0)

  was_ready : ReadyOf p.band (task s i)
  was_ready = entry_ready s k p.band i counted

  pub pick_low : i < 64
  pick_low = ready_in_table s k.slots i was_ready.ready

  used : (task s i).in_use ≡ true
  used = (k.good i).in_use ∙ ap (λ (st : ThreadState). not (is_state st Terminated)) was_ready.ready

  fewer : (j : ℕ) → count j rest + count j (i ∷ []) ≡ count j es
  fewer j = subst (λ (n : ℕ). count j rest + count j (n ∷ []) ≡ count j es) here.1 (count-taken j place es here.0)

  -- those before x in this band, once i is taken from before it
  pub pick_order : (x : ℕ) → (x ≡ i → ⊥) → permitted s core x ≡ true → 1 ≤ count x es → Sublistᴰ (i ∷ before x rest) (before x es)
  pick_order x other may there =
      let c : Cut (permitted s core) es place = cut (permitted s core) es here.0 in
      let f : List ℕ = c.front in
      let t : List ℕ = c.behind in
      let entry_is : c.entry ≡ i = sym (get_or-append_seam f c.entry t 0) ∙ (λ j. get_or (sym c.whole j) (sym c.place_is j) 0) ∙ here.1 in
      let rest-is : rest ≡ t ++ f = (λ j. taken_at (c.place_is j) (c.whole j)) ∙ taken_at-cut f c.entry t in
      let around : Sublistᴰ (c.entry ∷ before x (t ++ f)) (before x (f ++ c.entry ∷ t)) =
      passed x f c.entry t (c.skipped x may) (λ same. other (sym same ∙ entry_is)) (subst (λ (l : List ℕ). 1 ≤ count x l) c.whole there) in
      subst (λ (l : List ℕ). Sublistᴰ (i ∷ before x rest) (before x l)) (sym c.whole)
      (subst (λ (l : List ℕ). Sublistᴰ l (before x (f ++ c.entry ∷ t))) (λ j. entry_is j ∷ before x (sym rest-is j)) around)

  pub pick_harmless : Harmless (λ (x : ℕ). (x ≡ i → ⊥) × (permitted s core x ≡ true)) s (with_task (leaves s core p.band) i (picked (task s i)))
  pick_harmless = move s k i (picked (task s i)) (with_band s.queues p.band rest) (record {
    low = pick_low;
    good = record { in_use = used; mask = (k.good i).mask; budget = inr refl; consumed = slice_positive (task s i).qos };
    own = each-queue (λ (b : QoSClass) (l : List ℕ). count i l ≡ 0) s.queues p.band rest
        (let gone : count i rest ≡ 0 = omega (arith, fewer i, count_one i, k.queued p.band i, due-small p.band (task s i)) in gone)
        (λ b other. k.queued b i ∙ due_not b (task s i) (λ r. other (sym r.in_band ∙ was_ready.in_band)));
    rest = λ b j other.
        each-queue (λ (c : QoSClass) (l : List ℕ). count j l ≡ count j (queue s c)) s.queues p.band rest
        (let same : count j rest ≡ count j es = omega (arith, fewer j, count_other j i other) in same)
        (λ c _. refl) b;
    may = λ _ _. record { used = used; budget_is = refl };
    alike = λ x sx _ same. absurd (sx.0 same);
    order = λ x sx _.
        each-queue (λ (b : QoSClass) (l : List ℕ). 1 ≤ count x (queue s b) → Sublistᴰ (before x l) (before x (queue s b))) s.queues p.band rest
        (λ there. ListSublistᴰ.trans (ListSublistᴰ.cons (ListSublistᴰ.refl (before x rest))) (pick_order x sx.0 sx.1 there))
        (λ b _ _. ListSublistᴰ.refl (before x (queue s b)));
  })

  -- the pick becomes the core's holder
  pub pick_held : core < 64 → Harmless (λ (x : ℕ). (x ≡ i → ⊥) × (permitted s core x ≡ true)) s (after_pick s core (Some p)).state
  pick_held below =
      let t : State = with_task (leaves s core p.band) i (picked (task s i)) in
      let stored : task t i ≡ picked (task s i) = get_or-set_same s.tasks i (picked (task s i)) empty_record (omega (arith, k.slots, pick_low)) in
      then s t (after_pick s core (Some p)).state pick_harmless
      (hold t pick_harmless.invariant core i below (inr (subst MayHold (sym stored) (record { used = used; budget_is = refl }))))

-- ---- P

-- "or for c of 64 and above (no change)"
pub P-past : (s : State) (core : ℕ) → 64 ≤ core → rule_p core s ≡ no_choice s
unfolding rule_p
P-past s core past = rw (le-leb 64 core past)

pub P-below : (s : State) (core : ℕ) → core < 64 → rule_p core s ≡ after_pick s core (choice s core band_order)
unfolding rule_p
P-below s core low = rw (lt-leb 64 core low)

-- P keeps the invariant
pub P-invariant : (s : State) → Invariant s → (core : ℕ) → core < 64 → Invariant (rule_p core s).state
P-invariant s k core low = subst (λ (c : Chosen). Invariant c.state) (sym (P-below s core low)) (after (choice-is s core))
  where
    after : {o : Option Pick} → Choice s core o → Invariant (after_pick s core o).state
    after (taken p is earlier) = (pick_held s k core p is low).invariant
    after (none empty) = (hold {safe = λ (x : ℕ). ⊥} s k core none_byte low (inl refl)).invariant

-- "None is answered only then": no queue has a permitted entry
pub P-none : (s : State) (core : ℕ) → core < 64 → (rule_p core s).pick ≡ None → (b : QoSClass) (x : ℕ) → 1 ≤ count x (queue s b) →
    permitted s core x ≡ false
P-none s core low e = after (choice-is s core) (ap (λ (c : Chosen). c.pick) (sym (P-below s core low)) ∙ e)
  where
    after : {o : Option Pick} → Choice s core o → (after_pick s core o).pick ≡ None → (b : QoSClass) (x : ℕ) → 1 ≤ count x (queue s b) →
        permitted s core x ≡ false
    after (taken p is earlier) e b x there = let no : ◌≡◌ {A = ℕ} 0 1 = cc in absurd (omega arith)
    after (none empty) e b x there =
        split (λ (t : Bool). t ≡ false) (permitted s core x) (λ may. absurd (not_overlooked s core b x may there (empty b))) (λ _. refl)
