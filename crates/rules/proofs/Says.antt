-- Tests and what they say: each single test is paired with the fact that it tests, and the pairs are put together as the tests are.
-- Assumes nothing.
use mathlib.Core.Path.{◌≡◌, refl, sym, ap}
use mathlib.Core.Bool.{Bool, true, false, cond, not, ◌&&◌, ◌||◌, beq, false≢true, and-eq-true_iff}
use mathlib.Core.List.{List, [], ◌∷◌}
use mathlib.Core.Logic.Iff
use mathlib.Core.Logic.{◌↔◌, ◌⊎◌, inl, inr, ⊎_elim}
use Prim.Native.Nat.{ℕ, zero, suc, ◌≤◌, ◌<◌}
use native.Mathlib.Omega.{arith}
use borrow.Author.Tests.{ltb-true, ltb-false, leb-true, eqb-true, lt-ltb, le-leb, eq-eqb}
use lib.Dec.{ltb, leb, eqb}
use lib.ListN.{length, get_or}
use Rattle.records.specs.declared.band.QoSClass.{QoSClass}
use Rattle.records.specs.declared.band.QoSClass.TheVariants.{UserInteractive, RealTimeIO, Background}
use Rattle.records.specs.declared.state.ThreadState.{ThreadState}
use Rattle.records.specs.declared.task.TaskControlBlock.{TaskControlBlock}
use Rattle.records.specs.Band.{band_code}
use Rattle.records.specs.Lists.{Each, every, every_below}
use Rattle.records.specs.ThreadState.{is_state}
use Rattle.records.proofs.Bands.{band_code_one}
use Rattle.records.proofs.Cases.{split}
use Rattle.records.proofs.States.{is_state_true, is_state-same}
use Rattle.rules.specs.State.{band_order}
use Rattle.rules.specs.Accepted.{ReadyOf, MayHold, ready_of, may_hold}

-- the test passes exactly where P holds
abbrev pub Says : Bool → Type 0 → Type 0
Says test P = (test ≡ true) ↔ P

-- ---- single tests

pub equal : {a b : ℕ} → Says (eqb a b) (a ≡ b)
equal {a} {b} = (eqb-true a b, eq-eqb a b)

pub less : {a b : ℕ} → Says (ltb a b) (a < b)
less {a} {b} = (ltb-true a b, lt-ltb a b)

pub at_most : {a b : ℕ} → Says (leb a b) (a ≤ b)
at_most {a} {b} = (leb-true a b, le-leb a b)

pub same_flag : {a b : Bool} → Says (beq a b) (a ≡ b)
same_flag {a = true} {b = true} = (λ _. refl, λ _. refl)
same_flag {a = true} {b = false} = (sym, sym)
same_flag {a = false} {b = true} = Iff.rfl
same_flag {a = false} {b = false} = (λ _. refl, λ _. refl)

pub same-state : {a b : ThreadState} → Says (is_state a b) (a ≡ b)
same-state {a} {b} = (is_state_true a b, λ e. rw e (is_state-same b))

pub same-band : {a b : QoSClass} → Says (eqb (band_code a) (band_code b)) (a ≡ b)
same-band {a} {b} = Iff.trans equal (band_code_one a b, ap band_code)

-- ---- tests put together

pub both : {a b : Bool} {P Q : Type 0} → Says a P → Says b Q → Says (a && b) (P × Q)
both {a} {b} p q = Iff.trans (and-eq-true_iff a b) (Iff.and p q)

pub either : {a b : Bool} {P Q : Type 0} → Says a P → Says b Q → Says (a || b) (P ⊎ Q)
either {a = true} p q = (λ _. inl (p.0 refl), λ _. refl)
either {a = false} p q = (λ e. inr (q.0 e), ⊎_elim (λ h. absurd (false≢true (p.1 h))) q.1)

pub never : {a : Bool} {P : Type 0} → Says a P → Says (not a) (P → ⊥)
never {a = true} p = (λ e _. false≢true e, λ none. absurd (none (p.0 refl)))
never {a = false} p = (λ _ h. false≢true (p.1 h), λ _. refl)

pub implies : {a b : Bool} {P Q : Type 0} → Says a P → Says b Q → Says (not a || b) (P → Q)
implies {a = true} p q = (λ e _. q.0 e, λ f. q.1 (f (p.0 refl)))
implies {a = false} p q = (λ _ h. absurd (false≢true (p.1 h)), λ _. refl)

-- one of two tests, as a number is below another or not
pub by_place : {i n : ℕ} {b c : Bool} {P Q : Type 0} → Says b P → Says c Q → Says (cond (ltb i n) b c) ((i < n → P) × (n ≤ i → Q))
by_place {i} {n} {b} {c} {P} {Q} p q =
    split (λ (t : Bool). Says (cond t b c) ((i < n → P) × (n ≤ i → Q))) (ltb i n)
    (λ is. let low : i < n = ltb-true i n is in (λ e. (λ _. p.0 e, λ past. absurd (omega arith)), λ f. p.1 (f.0 low)))
    (λ no. let past : n ≤ i = ltb-false i n no in (λ e. (λ low. absurd (omega arith), λ _. q.0 e), λ f. q.1 (f.1 past)))

-- every element of a list, as one fact
pub all_of : {A : Type 0} {test : A → Bool} {P : A → Type 0} → ((a : A) → Says (test a) (P a)) → (l : List A) → Says (every test l) (Each P l)
unfolding every Each
all_of says [] = (λ _. tt, λ _. refl)
all_of says (a ∷ l) = both (says a) (all_of says l)

-- every number below n
module _ {test : ℕ → Bool} {P : ℕ → Type 0} (says : (k : ℕ) → Says (test k) (P k)) where
  last_too : (n : ℕ) → P n × ((k : ℕ) → k < n → P k) → (k : ℕ) → k < suc n → P k
  last_too n (last, all) k h =
      split (λ _. P k) (ltb k n)
      (λ e. all k (ltb-true k n e))
      (λ e. let is : k ≡ n = omega (arith, ltb-false k n e) in rw is last)

  pub below : {n : ℕ} → Says (every_below n test) ((k : ℕ) → k < n → P k)
  unfolding every_below
  below {n = zero} = (λ _ k h. absurd (omega arith), λ _. refl)
  below {n = suc n} = Iff.trans (both (says n) below) (last_too n, λ all. (all n (omega arith), λ k h. all k (omega arith)))

-- every element of a list, by its place
module _ {A : Type 0} {test : A → Bool} {P : A → Type 0} (says : (a : A) → Says (test a) (P a)) (d : A) where
  pub each : (l : List A) → Says (every test l) ((i : ℕ) → i < length l → P (get_or l i d))
  unfolding every
  each [] = (λ _ i h. absurd (omega arith), λ _. refl)
  each (a ∷ l) = Iff.trans (both (says a) (each l)) (first_too, λ all. (all 0 (omega arith), λ i h. all (suc i) (omega arith))) where
    first_too : P a × ((i : ℕ) → i < length l → P (get_or l i d)) → (i : ℕ) → i < length (a ∷ l) → P (get_or (a ∷ l) i d)
    first_too p zero h = p.0
    first_too p (suc i) h = p.1 i (omega arith)

-- every band
module _ {test : QoSClass → Bool} {P : QoSClass → Type 0} (says : (q : QoSClass) → Says (test q) (P q)) where
  in_order : ((i : ℕ) → i < 3 → P (get_or band_order i Background)) → (q : QoSClass) → P q
  in_order all UserInteractive = all 0 (omega arith)
  in_order all RealTimeIO = all 1 (omega arith)
  in_order all Background = all 2 (omega arith)

  pub bands : Says (every test band_order) ((q : QoSClass) → P q)
  bands = Iff.trans (each says Background band_order) (in_order, λ all i _. all (get_or band_order i Background))

-- ---- conditions of acceptance

pub ready_of_lem : (q : QoSClass) (t : TaskControlBlock) → Says (ready_of q t) (ReadyOf q t)
ready_of_lem q t =
    Iff.trans (both same-state same-band)
    (λ (ready, in_band). record { ready = ready; in_band = in_band }, λ r. (r.ready, r.in_band))

pub may-hold : {t : TaskControlBlock} → Says (may_hold t) (MayHold t)
may-hold = Iff.trans (both Iff.rfl equal) (λ (used, budget_is). record { used = used; budget_is = budget_is }, λ m. (m.used, m.budget_is))
