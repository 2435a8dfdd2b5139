-- What each call does before it comes to P, or instead: one of the changes of Moves, or a few in a row, and so harmless to slots that it does
-- not touch. Assumes nothing.
use mathlib.Core.Path.{◌≡◌, refl, sym, ap, ◌∙◌, subst}
use mathlib.Core.Bool.{Bool, true, false, cond, not, ◌||◌, or-false, true≢false}
use mathlib.Core.List.{map}
use mathlib.Core.Logic.{◌⊎◌, inl, inr}
use Prim.Native.Nat.{ℕ, ◌<◌}
use native.Mathlib.Omega.{arith}
use borrow.Author.Tests.{leb-false, lt-leb, eqb-false, not-true, not-false}
use lib.Dec.{leb, eqb}
use lib.ListN.{get_or, length-map, get_or-map}
use lib.Seq.{get_or-set_same}
use Rattle.std.specs.Prelude.{None, Some}
use Rattle.records.specs.declared.band.QoSClass.{QoSClass}
use Rattle.records.specs.declared.band.QoSClass.TheVariants.{UserInteractive, RealTimeIO, Background}
use Rattle.records.specs.declared.ids.Slot.{Slot}
use Rattle.records.specs.declared.ids.Tid.{Tid}
use Rattle.records.specs.declared.state.ThreadState.{ThreadState}
use Rattle.records.specs.declared.state.ThreadState.TheVariants.{Ready, Running, Blocked, Terminated}
use Rattle.records.specs.declared.task.TaskControlBlock.{TaskControlBlock}
use Rattle.records.specs.Band.{slice}
use Rattle.records.specs.Lists.{any_of}
use Rattle.records.specs.Mask.{stored_mask}
use Rattle.records.specs.ThreadState.{is_state}
use Rattle.records.specs.Task.{empty_record, created, with_state, with_mask, with_consumed, terminated, blocked}
use Rattle.records.proofs.Bands.{slice_positive}
use Rattle.records.proofs.Cases.{split, by_if, neither}
use Rattle.records.proofs.Masks.{stored_mask_nonzero}
use Rattle.records.proofs.States.{is_state_true}
use Rattle.rules.specs.declared.answer.Value.TheVariants as value
use Rattle.rules.specs.State.{State, none_byte, task, queue, holder, holder_of, with_task}
use Rattle.rules.specs.Accepted.{MayHold}
use Rattle.rules.specs.Outcome.{Outcome, done}
use Rattle.rules.specs.Picking.{permitted}
use Rattle.rules.specs.Waking.{free_slot, released, out_of_holders, out_of_queues, after_terminate, missing, enqueued, enqueue}
use Rattle.rules.specs.Ticking.{waits_before, charged, slice_over, cleared, requeued}
use Rattle.rules.specs.Took.{earlier_waits, switches, back_to_queue, out_of_slice}
use Rattle.rules.proofs.Invariant.{Good, Invariant, due-idle, used_in_table, never_full}
use Rattle.rules.proofs.Lists.{first_place-passes, any-first}
use Rattle.rules.proofs.Moves.{waits-elsewhere, Harmless, stay, then, put, holder_may, to_tail, out, holders, hold}

-- a slot that is not missing is one of the 64, and in use
pub present : (s : State) (i : ℕ) → missing s i ≡ false → (i < 64) × ((task s i).in_use ≡ true)
present s i here =
    let both : (leb 64 i ≡ false) × (not (task s i).in_use ≡ false) = neither (leb 64 i) (not (task s i).in_use) here in
    (leb-false 64 i both.0, not-false (task s i).in_use both.1)

-- one state is not another
pub idle_in : (t : TaskControlBlock) (st : ThreadState) → is_state t.state st ≡ true → is_state st Ready ≡ false → is_state t.state Ready ≡ false
idle_in t st is other = ap (λ (q : ThreadState). is_state q Ready) (is_state_true t.state st is) ∙ other

-- a slot not in use does not wait
free_idle : (t : TaskControlBlock) → Good t → t.in_use ≡ false → is_state t.state Ready ≡ false
free_idle t good free =
    split (λ _. is_state t.state Ready ≡ false) (is_state t.state Terminated)
    (λ is. idle_in t Terminated is refl)
    (λ alive. absurd (true≢false (ap not (sym alive) ∙ sym good.in_use ∙ free)))

-- ---- the tick's test, in the rule's words and in those of Took

earlier_is : (band : QoSClass) (s : State) (c : ℕ) → earlier_waits band s c ≡ waits_before band s c
unfolding any_of
earlier_is UserInteractive s c = refl
earlier_is RealTimeIO s c = or-false (any_of (permitted s c) (queue s UserInteractive)) ∙ any-first (permitted s c) (queue s UserInteractive)
earlier_is Background s c = λ i.
    any-first (permitted s c) (queue s UserInteractive) i
    || (or-false (any_of (permitted s c) (queue s RealTimeIO)) ∙ any-first (permitted s c) (queue s RealTimeIO)) i

pub switches-is : (h elapsed c : ℕ) (s : State) → switches h elapsed c s ≡ slice_over h elapsed c s
switches-is h elapsed c s = ap (λ (b : Bool). leb (task s h).slice_budget_us (charged h elapsed s) || b) (earlier_is (task s h).qos s c)

-- ---- facts about the state that a call finds

-- a core's holder, where there is one
pub held-slot : (s : State) (c : ℕ) (h : Slot) → holder_of s c ≡ Some h → (holder s c ≡ h.0) × (eqb (holder s c) none_byte ≡ false)
held-slot s c h =
    split (λ (b : Bool). cond b None (Some (record { 0 = holder s c })) ≡ Some h → (holder s c ≡ h.0) × (b ≡ false)) (eqb (holder s c) none_byte)
    (λ _ e. let no : ◌≡◌ {A = ℕ} 0 1 = cc in absurd (omega arith))
    (λ _ e. let same : ◌≡◌ {A = Slot} (record { 0 = holder s c }) h = cc in (ap (λ (j : Slot). j.0) same, refl))

module _ (s : State) (k : Invariant s) where
  free_is : free_slot s < 64 → (task s (free_slot s)).in_use ≡ false
  free_is low =
      not-true (task s (free_slot s)).in_use
      (first_place-passes (λ (t : TaskControlBlock). not t.in_use) s.tasks empty_record (omega (arith, k.slots)))

  -- terminate lets go of the slot on every core, and leaves the other holders
  holder_left : (i c : ℕ) → holder (out_of_holders i s) c ≡ released i (holder s c)
  holder_left i c =
      let none_stays : released i none_byte ≡ none_byte = by_if (λ (h : ℕ). h ≡ none_byte) (eqb none_byte i) (λ _. refl) (λ _. refl) in
      ap (get_or (map (released i) s.holders) c) (sym none_stays) ∙ get_or-map (released i) s.holders c none_byte

  held_nowhere : (i : ℕ) → i < 64 → (c : ℕ) → holder (out_of_holders i s) c ≡ i → ⊥
  held_nowhere i low c is =
      split (λ (b : Bool). cond b none_byte (holder s c) ≡ i → ⊥) (eqb (holder s c) i) (λ _ e. omega arith)
      (λ other. eqb-false (holder s c) i other) (sym (holder_left i c) ∙ is)

  -- a core's holder, where there is one, may be held
  not_none : (c : ℕ) → (holder s c ≡ none_byte) ⊎ MayHold (task s (holder s c)) → eqb (holder s c) none_byte ≡ false → MayHold (task s (holder s c))
  not_none c (inl none) some = absurd (eqb-false (holder s c) none_byte some none)
  not_none c (inr m) some = m

  pub holder_is : (c : ℕ) (h : Slot) → holder_of s c ≡ Some h → MayHold (task s h.0)
  holder_is c h is = subst (λ (j : ℕ). MayHold (task s j)) (held-slot s c h is).0 (not_none c (k.held c) (held-slot s c h is).1)

  -- an enqueue of a slot in use that is not Ready is not refused
  pub enqueue_done : (i : ℕ) → i < 64 → (task s i).in_use ≡ true → is_state (task s i).state Ready ≡ false →
      enqueue i s ≡ done value.Nothing (enqueued i s)
  unfolding enqueue
  enqueue_done i low used idle = rw (lt-leb 64 i low) (rw used (rw idle (rw (never_full s k (task s i).qos i low idle) refl)))

  enqueue_back : (i : ℕ) → i < 64 → (task s i).in_use ≡ true → (enqueue i s).state ≡ back_to_queue i s
  unfolding enqueue
  enqueue_back i low used =
      split (λ (b : Bool). is_state (task s i).state Ready ≡ b → (enqueue i s).state ≡ cond b s (enqueued i s)) (is_state (task s i).state Ready)
      (λ _ waits. rw (lt-leb 64 i low) (rw used (rw waits refl)))
      (λ _ idle. ap (λ (o : Outcome). o.state) (enqueue_done i low used idle))
      refl

-- ---- one change

module _ {safe : ℕ → Type 0} (s : State) (k : Invariant s) where
  pub creates : (tid : Tid) (band : QoSClass) (context cr3 rsp0 : ℕ) → free_slot s < 64 →
      Harmless safe s (with_task s (free_slot s) (created tid band context cr3 rsp0))
  creates tid band context cr3 rsp0 low =
      let i : ℕ = free_slot s in
      let idle : is_state (task s i).state Ready ≡ false = free_idle (task s i) (k.good i) (free_is s k low) in
      put s k i (created tid band context cr3 rsp0) low
      (record { in_use = refl; mask = λ e. omega arith; budget = inl refl; consumed = slice_positive band })
      (λ b. sym (due-idle b (task s i) idle))
      (λ m. absurd (true≢false (sym m.used ∙ free_is s k low)))
      (λ x _. waits-elsewhere s i idle x)

  pub sets_mask : (i mask : ℕ) → i < 64 → ((x : ℕ) → safe x → x ≡ i → ⊥) → Harmless safe s (with_task s i (with_mask (task s i) (stored_mask mask)))
  sets_mask i mask low apart =
      put s k i (with_mask (task s i) (stored_mask mask)) low
      (record { in_use = (k.good i).in_use; mask = stored_mask_nonzero mask; budget = (k.good i).budget; consumed = (k.good i).consumed })
      (λ b. refl)
      (λ m. record { used = m.used; budget_is = m.budget_is })
      (λ x sx _ same. absurd (apart x sx same))

  pub blocks : (i : ℕ) → i < 64 → (task s i).in_use ≡ true → ((x : ℕ) → safe x → x ≡ i → ⊥) →
      Harmless safe s (with_task (out_of_queues i s) i (blocked (task s i)))
  blocks i low used apart =
      out s k i (blocked (task s i)) low
      (record { in_use = used; mask = (k.good i).mask; budget = (k.good i).budget; consumed = slice_positive (task s i).qos })
      refl
      (λ c is. let m : MayHold (task s i) = holder_may s k c i low is in record { used = m.used; budget_is = m.budget_is })
      apart

  pub wakes_holder : (i : ℕ) → i < 64 → (task s i).in_use ≡ true → is_state (task s i).state Blocked ≡ true →
      Harmless safe s (with_task s i (with_state (task s i) Running))
  wakes_holder i low used is =
      let idle : is_state (task s i).state Ready ≡ false = idle_in (task s i) Blocked is refl in
      put s k i (with_state (task s i) Running) low
      (record { in_use = used; mask = (k.good i).mask; budget = (k.good i).budget; consumed = (k.good i).consumed })
      (λ b. sym (due-idle b (task s i) idle))
      (λ m. record { used = m.used; budget_is = m.budget_is })
      (λ x _. waits-elsewhere s i idle x)

  let_go : (i : ℕ) → Harmless safe s (out_of_holders i s)
  let_go i =
      let Held : ℕ → Type 0 = λ (h : ℕ). (h ≡ none_byte) ⊎ MayHold (task s h) in
      holders s k (map (released i) s.holders) (length-map s.holders (released i) ∙ k.cores)
      (λ c. subst Held (sym (holder_left s k i c)) (by_if Held (eqb (holder s c) i) (λ _. inl refl) (λ _. k.held c)))

  goes_back : (i : ℕ) → (task s i).in_use ≡ true → Harmless safe s (back_to_queue i s)
  goes_back i used = by_if (Harmless safe s) (is_state (task s i).state Ready) (λ _. stay s k) (λ idle. to_tail s k i used idle)

  -- a holder's consumed time is set
  pub consumes : (i n : ℕ) → (task s i).in_use ≡ true → n < slice (task s i).qos → Harmless safe s (with_task s i (with_consumed (task s i) n))
  consumes i n used short =
      put s k i (with_consumed (task s i) n) (used_in_table s k.slots i used)
      (record { in_use = (k.good i).in_use; mask = (k.good i).mask; budget = (k.good i).budget; consumed = short })
      (λ b. refl)
      (λ m. record { used = m.used; budget_is = m.budget_is })
      (λ x _ _ _. record { state = refl; band = refl; mask = refl })

  pub clears : (c : ℕ) → c < 64 → Harmless safe s (cleared c s)
  clears c low = hold s k c none_byte low (inl refl)

-- ---- two in a row

module _ {safe : ℕ → Type 0} (s : State) (k : Invariant s) where
  pub terminates : (i : ℕ) → i < 64 → ((x : ℕ) → safe x → x ≡ i → ⊥) → Harmless safe s (after_terminate i s)
  terminates i low apart =
      let t : State = out_of_holders i s in
      let gone : Harmless safe s t = let_go s k i in
      then s t (after_terminate i s) gone
      (out t gone.invariant i (terminated (task s i)) low
      (record { in_use = refl; mask = (k.good i).mask; budget = (k.good i).budget; consumed = (k.good i).consumed })
      refl
      (λ c is. absurd (held_nowhere s k i low c is))
      apart)

  -- a Running holder that yields
  pub yields : (i c : ℕ) → c < 64 → (task s i).in_use ≡ true → is_state (task s i).state Ready ≡ false → Harmless safe s (cleared c (enqueued i s))
  yields i c low used idle =
      let queued : Harmless safe s (enqueued i s) = to_tail s k i used idle in
      then s (enqueued i s) (cleared c (enqueued i s)) queued (clears (enqueued i s) queued.invariant c low)

  -- "consumed becomes 0, the holder is enqueued unless Ready": no such enqueue is refused but for a Ready one
  pub slice_ends_lem : (i : ℕ) → (task s i).in_use ≡ true → Harmless safe s (out_of_slice i s) × (requeued i s ≡ out_of_slice i s)
  slice_ends_lem i used =
      let t : State = with_task s i (with_consumed (task s i) 0) in
      let low : i < 64 = used_in_table s k.slots i used in
      let zeroed : Harmless safe s t = consumes s k i 0 used (slice_positive (task s i).qos) in
      let stored : task t i ≡ with_consumed (task s i) 0 = get_or-set_same s.tasks i (with_consumed (task s i) 0) empty_record (omega (arith, k.slots)) in
      let still : (task t i).in_use ≡ true = ap (λ (r : TaskControlBlock). r.in_use) stored ∙ used in
      (then s t (out_of_slice i s) zeroed (goes_back t zeroed.invariant i still), enqueue_back t zeroed.invariant i low still)
