-- Acceptance as the proofs carry it. In place of what document 01 asks of the queues there is one equation: a slot stands in a band's queue as
-- often as its record says, once if it is Ready and of that band, else not at all. Every slot and core is spoken of; those of 64 and above read
-- as the empty record and as none. The two forms are shown equal. Assumes nothing.
use mathlib.Core.Path.{◌≡◌, refl, sym, ap, ◌∙◌, subst}
use mathlib.Core.Bool.{Bool, true, false, cond, not, true≢false}
use mathlib.Core.List.{List}
use mathlib.Core.Logic.{◌⊎◌, inl}
use Prim.Native.Nat.{ℕ, ◌+◌, ◌≤◌, ◌<◌}
use native.Mathlib.Omega.{arith}
use borrow.Author.Tests.{ltb-true, ltb-false, lt-leb, eqb-true, eqb-false}
use lib.Dec.{ltb, eqb}
use lib.ListN.{length, get_or, get_or-eq_default}
use Rattle.records.specs.declared.band.QoSClass.{QoSClass}
use Rattle.records.specs.declared.band.QoSClass.TheVariants.{UserInteractive, RealTimeIO, Background}
use Rattle.records.specs.declared.state.ThreadState.{ThreadState}
use Rattle.records.specs.declared.state.ThreadState.TheVariants.{Ready, Terminated}
use Rattle.records.specs.declared.task.TaskControlBlock.{TaskControlBlock}
use Rattle.records.specs.Band.{band_code, slice}
use Rattle.records.specs.Lists.{count}
use Rattle.records.specs.ThreadState.{is_state}
use Rattle.records.specs.Task.{empty_record}
use Rattle.records.proofs.Cases.{split}
use Rattle.queue.specs.Entries.{full}
use Rattle.queue.proofs.Counts.{count-entry}
use Rattle.rules.specs.State.{State, none_byte, task, queue, holder}
use Rattle.rules.specs.Accepted.{Accepted, ReadyOf, MayHold, standings, ready_of, due}
use Rattle.rules.proofs.Lists.{count-place, bounded, room}
use Rattle.rules.proofs.Says.{ready_of_lem}

-- ---- how often a record asks to stand in a band's queue

pub due-small : (band : QoSClass) (t : TaskControlBlock) → due band t ≤ 1
due-small band t = split (λ (b : Bool). cond b 1 0 ≤ 1) (ready_of band t) (λ _. omega arith) (λ _. omega arith)

pub due-is : (band : QoSClass) (t : TaskControlBlock) → 1 ≤ due band t → ReadyOf band t
due-is band t = split (λ (b : Bool). 1 ≤ cond b 1 0 → ReadyOf band t) (ready_of band t) (λ is _. (ready_of_lem band t).0 is) (λ _ h. absurd (omega arith))

pub due-ready : (band : QoSClass) (t : TaskControlBlock) → ReadyOf band t → due band t ≡ 1
due-ready band t r = ap (λ (b : Bool). cond b 1 0) ((ready_of_lem band t).1 r)

pub due_not : (band : QoSClass) (t : TaskControlBlock) → (ReadyOf band t → ⊥) → due band t ≡ 0
due_not band t other = split (λ (b : Bool). ◌≡◌ {A = ℕ} (cond b 1 0) 0) (ready_of band t) (λ is. absurd (other ((ready_of_lem band t).0 is))) (λ _. refl)

-- Ready and not Ready are two
pub not_both : (st : ThreadState) → st ≡ Ready → is_state st Ready ≡ false → ⊥
not_both st is other = true≢false (ap (λ (q : ThreadState). is_state q Ready) (sym is) ∙ other)

-- a record that is not Ready asks for no place
pub due-idle : (band : QoSClass) (t : TaskControlBlock) → is_state t.state Ready ≡ false → due band t ≡ 0
due-idle band t idle = due_not band t (λ r. not_both t.state r.ready idle)

-- ---- the form itself

-- what acceptance asks of a record alone
pub record Good (t : TaskControlBlock) : Type 0 where
  pub in_use : t.in_use ≡ not (is_state t.state Terminated)
  pub mask : t.cpu_affinity ≡ 0 → ⊥
  pub budget : (t.slice_budget_us ≡ 0) ⊎ (t.slice_budget_us ≡ slice t.qos)
  pub consumed : t.consumed_slice_us < slice t.qos

pub record Invariant (s : State) : Type 0 where
  pub slots : length s.tasks ≡ 64
  pub cores : length s.holders ≡ 64
  pub good : (slot : ℕ) → Good (task s slot)
  pub queued : (band : QoSClass) (slot : ℕ) → count slot (queue s band) ≡ due band (task s slot)
  pub held : (core : ℕ) → (holder s core ≡ none_byte) ⊎ MayHold (task s (holder s core))

pub empty-good : Good empty_record
empty-good = record { in_use = refl; mask = λ e. omega arith; budget = inl refl; consumed = omega arith }

-- what holds of the first n elements and of the default holds of all that can be read
pub everywhere : {A : Type 0} (P : A → Type 0) (l : List A) (d : A) (n : ℕ) → length l ≡ n → P d → ((i : ℕ) → i < n → P (get_or l i d)) →
    (i : ℕ) → P (get_or l i d)
everywhere P l d n whole out within i =
    split (λ _. P (get_or l i d)) (ltb i n)
    (λ is. within i (ltb-true i n is))
    (λ no. subst P (sym (get_or-eq_default l d (let past : length l ≤ i = omega (arith, ltb-false i n no) in past))) out)

-- a slot whose record is not the empty one is one of the 64
pub in_table : (s : State) → length s.tasks ≡ 64 → (slot : ℕ) → (task s slot ≡ empty_record → ⊥) → slot < 64
in_table s whole slot filled =
    split (λ _. slot < 64) (ltb slot 64)
    (λ is. ltb-true slot 64 is)
    (λ out. absurd (filled (get_or-eq_default s.tasks empty_record (let past : length s.tasks ≤ slot = omega (arith, ltb-false slot 64 out) in past))))

pub ready_in_table : (s : State) → length s.tasks ≡ 64 → (slot : ℕ) → (task s slot).state ≡ Ready → slot < 64
ready_in_table s whole slot ready =
    in_table s whole slot
    (λ e. let never : Ready ≡ Terminated = sym ready ∙ ap (λ (t : TaskControlBlock). t.state) e in let no : ◌≡◌ {A = ℕ} 0 1 = cc in absurd (omega arith))

pub used_in_table : (s : State) → length s.tasks ≡ 64 → (slot : ℕ) → (task s slot).in_use ≡ true → slot < 64
used_in_table s whole slot used =
    in_table s whole slot (λ e. true≢false (sym used ∙ ap (λ (t : TaskControlBlock). t.in_use) e))

-- a core of 64 and above has no holder
pub no_holder : (s : State) → length s.holders ≡ 64 → (core : ℕ) → 64 ≤ core → holder s core ≡ none_byte
no_holder s whole core past = get_or-eq_default s.holders none_byte (omega (arith, whole, past))

-- ---- a queue has room for whoever is not in it

module _ (s : State) (k : Invariant s) where
  pub entry_ready : (band : QoSClass) (slot : ℕ) → 1 ≤ count slot (queue s band) → ReadyOf band (task s slot)
  entry_ready band slot h = due-is band (task s slot) (let d : 1 ≤ due band (task s slot) = omega (arith, k.queued band slot) in d)

  entry_below : (band : QoSClass) (slot : ℕ) → 1 ≤ count slot (queue s band) → slot < 64
  entry_below band slot h = ready_in_table s k.slots slot (entry_ready band slot h).ready

  pub entry_once : (band : QoSClass) (slot : ℕ) → count slot (queue s band) ≤ 1
  entry_once band slot = omega (arith, k.queued band slot, due-small band (task s slot))

  pub queue_bounded : (band : QoSClass) → length (queue s band) ≤ 64
  queue_bounded band = bounded 64 (queue s band) (entry_below band) (entry_once band)

  -- "64 entries stand in it" is never so for a slot that could be queued
  pub never_full : (band : QoSClass) (slot : ℕ) → slot < 64 → is_state (task s slot).state Ready ≡ false → full (queue s band) ≡ false
  never_full band slot low idle =
      let missing : count slot (queue s band) ≡ 0 = k.queued band slot ∙ due-idle band (task s slot) idle in
      lt-leb 64 (length (queue s band)) (room 64 (queue s band) slot (entry_below band) (entry_once band) low missing)

-- ---- the two forms are one

one_band : (q : QoSClass) → cond (eqb (band_code q) 0) 1 0 + (cond (eqb (band_code q) 1) 1 0 + cond (eqb (band_code q) 2) 1 0) ≡ 1
one_band UserInteractive = refl
one_band RealTimeIO = refl
one_band Background = refl

pub invariant-accepted : (s : State) → Invariant s → Accepted s
invariant-accepted s k = record {
  slots = k.slots;
  cores = k.cores;
  in_use = λ slot _. (k.good slot).in_use;
  masks = λ slot _. (k.good slot).mask;
  lengths = queue_bounded s k;
  entries = λ band place h. entry_ready s k band (get_or (queue s band) place 0) (count-entry place (queue s band) h);
  once = λ slot _ ready.
      let t : TaskControlBlock = task s slot in
      let dues : due UserInteractive t + (due RealTimeIO t + due Background t) ≡ 1 =
      let is : is_state t.state Ready ≡ true = ap (λ (st : ThreadState). is_state st Ready) ready in
      rw is (one_band t.qos) in
      omega (arith, k.queued UserInteractive slot, k.queued RealTimeIO slot, k.queued Background slot);
  holders = λ core _. k.held core;
  budgets = λ slot _. (k.good slot).budget;
  consumed = λ slot _. (k.good slot).consumed;
}

module _ (s : State) (a : Accepted s) where
  stands_ready : (band : QoSClass) (slot : ℕ) → 1 ≤ count slot (queue s band) → ReadyOf band (task s slot)
  stands_ready band slot h =
      let p : (place : ℕ) × (place < length (queue s band)) × (get_or (queue s band) place 0 ≡ slot) = count-place slot (queue s band) h in
      subst (λ (i : ℕ). ReadyOf band (task s i)) p.2 (a.entries band p.0 p.1)

  -- in a band that is not its own a slot does not stand
  elsewhere : (band : QoSClass) (slot : ℕ) → (ReadyOf band (task s slot) → ⊥) → count slot (queue s band) ≡ 0
  elsewhere band slot other =
      split (λ _. count slot (queue s band) ≡ 0) (eqb (count slot (queue s band)) 0)
      (λ is. eqb-true (count slot (queue s band)) 0 is)
      (λ more. absurd (other (stands_ready band slot (omega (arith, eqb-false (count slot (queue s band)) 0 more)))))

  apart : (b c : QoSClass) (slot : ℕ) → ReadyOf b (task s slot) → (band_code b ≡ band_code c → ⊥) → count slot (queue s c) ≡ 0
  apart b c slot r different = elsewhere c slot (λ q. different (ap band_code (sym r.in_band ∙ q.in_band)))

  somewhere : (band : QoSClass) (slot : ℕ) → ReadyOf band (task s slot) → standings s slot ≡ 1
  somewhere band slot r = a.once slot (ready_in_table s a.slots slot r.ready) r.ready

  stands_once_lem : (band : QoSClass) (slot : ℕ) → ReadyOf band (task s slot) → count slot (queue s band) ≡ 1
  stands_once_lem UserInteractive slot r =
      omega (
        arith,
        somewhere UserInteractive slot r,
        apart UserInteractive RealTimeIO slot r (λ e. omega arith),
        apart UserInteractive Background slot r (λ e. omega arith),
      )
  stands_once_lem RealTimeIO slot r =
      omega (
        arith,
        somewhere RealTimeIO slot r,
        apart RealTimeIO UserInteractive slot r (λ e. omega arith),
        apart RealTimeIO Background slot r (λ e. omega arith),
      )
  stands_once_lem Background slot r =
      omega (
        arith,
        somewhere Background slot r,
        apart Background UserInteractive slot r (λ e. omega arith),
        apart Background RealTimeIO slot r (λ e. omega arith),
      )

pub accepted-invariant : (s : State) → Accepted s → Invariant s
accepted-invariant s a = record {
  slots = a.slots;
  cores = a.cores;
  good = everywhere Good s.tasks empty_record 64 a.slots empty-good (λ slot h. record {
    in_use = a.in_use slot h;
    mask = a.masks slot h;
    budget = a.budgets slot h;
    consumed = a.consumed slot h;
  });
  queued = λ band slot.
      split (λ (b : Bool). count slot (queue s band) ≡ cond b 1 0) (ready_of band (task s slot))
      (λ is. stands_once_lem s a band slot ((ready_of_lem band (task s slot)).0 is))
      (λ other. elsewhere s a band slot (λ r. true≢false (sym ((ready_of_lem band (task s slot)).1 r) ∙ other)));
  held = everywhere (λ (h : ℕ). (h ≡ none_byte) ⊎ MayHold (task s h)) s.holders none_byte 64 a.cores (inl refl) a.holders;
}
