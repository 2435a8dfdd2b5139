-- The changes that calls are made of: a record and the queues, holders, microseconds. Each keeps acceptance, and leaves a slot that waits
-- Ready, with its band and mask, nobody new before it, and those before it in their order. `safe` says which waiting slots a change leaves
-- alone. Assumes nothing.
use mathlib.Core.Path.{◌≡◌, refl, sym, ap, ◌∙◌, subst}
use mathlib.Core.Bool.{true, false, not}
use mathlib.Core.List.Sublistᴰ
use mathlib.Core.List.{List, [], ◌∷◌, ◌++◌, Sublistᴰ}
use mathlib.Core.Logic.{◌⊎◌, inl, inr}
use Prim.Native.Nat.{ℕ, ◌+◌, ◌≤◌, ◌<◌}
use native.Mathlib.Omega.{arith}
use lib.ListN.{length, get_or, set, length-set}
use Rattle.records.specs.declared.band.QoSClass.{QoSClass}
use Rattle.records.specs.declared.state.ThreadState.TheVariants.{Ready}
use Rattle.records.specs.declared.task.TaskControlBlock.{TaskControlBlock}
use Rattle.records.specs.ThreadState.{is_state}
use Rattle.records.specs.Task.{empty_record, with_state}
use Rattle.records.specs.Lists.{count}
use Rattle.queue.specs.Entries.{pushed, without}
use Rattle.queue.proofs.Counts.{count_append, count_one, count_other, count-without-same, count-without_other}
use Rattle.queue.proofs.Entries.{takes-slot, pushed-taken}
use Rattle.rules.specs.State.{State, Queues, none_byte, task, of_band, with_band, each_queue, queue, holder, with_task, with_queues, with_holders, with_holder, with_micros}
use Rattle.rules.specs.Accepted.{MayHold, due}
use Rattle.rules.specs.Waking.{enqueued, out_of_queues}
use Rattle.rules.specs.Stretch.{before}
use Rattle.rules.proofs.Invariant.{Good, Invariant, due-ready, due_not, due-idle, not_both, never_full, used_in_table}
use Rattle.rules.proofs.Lists.{before_append, before-without}
use Rattle.rules.proofs.Parts.{each_set, each-queue, of_band-each}

-- ---- what a change must leave

-- two records are alike to one who waits
pub record Alike (r t : TaskControlBlock) : Type 0 where
  pub state : r.state ≡ t.state
  pub band : r.qos ≡ t.qos
  pub mask : r.cpu_affinity ≡ t.cpu_affinity

-- a slot that waits is not one that does not
pub waits-elsewhere : {r : TaskControlBlock} (s : State) (i : ℕ) → is_state (task s i).state Ready ≡ false → (x : ℕ) → (task s x).state ≡ Ready →
    x ≡ i → Alike r (task s i)
waits-elsewhere s i idle x ready same = absurd (not_both (task s i).state (ap (λ (j : ℕ). (task s j).state) (sym same) ∙ ready) idle)

pub record Undisturbed (x : ℕ) (s t : State) : Type 0 where
  pub alike : Alike (task t x) (task s x)
  pub order : Sublistᴰ (before x (queue t (task s x).qos)) (before x (queue s (task s x).qos))

pub record Harmless (safe : ℕ → Type 0) (s t : State) : Type 0 where
  pub invariant : Invariant t
  pub undisturbed : (x : ℕ) → safe x → (task s x).state ≡ Ready → Undisturbed x s t

-- who waits does not see holders and microseconds
unseen : (x : ℕ) (s : State) (hs : List ℕ) (n : ℕ) → Undisturbed x s (with_micros (with_holders s hs) n)
unseen x s hs n = record { alike = record { state = refl; band = refl; mask = refl }; order = Sublistᴰ.refl (before x (queue s (task s x).qos)) }

pub stay : {safe : ℕ → Type 0} (s : State) → Invariant s → Harmless safe s s
stay s k = record { invariant = k; undisturbed = λ x _ _. unseen x s s.holders s.micros }

-- one change after another
pub then : {safe : ℕ → Type 0} (s t u : State) → Harmless safe s t → Harmless safe t u → Harmless safe s u
then s t u f g = record {
  invariant = g.invariant;
  undisturbed = λ x sx ready.
      let c : Undisturbed x s t = f.undisturbed x sx ready in
      let d : Undisturbed x t u = g.undisturbed x sx (c.alike.state ∙ ready) in
      record {
        alike = record { state = d.alike.state ∙ c.alike.state; band = d.alike.band ∙ c.alike.band; mask = d.alike.mask ∙ c.alike.mask };
        order = Sublistᴰ.trans (subst (λ (b : QoSClass). Sublistᴰ (before x (queue u b)) (before x (queue t b))) c.alike.band d.order) c.order;
      };
}

-- ---- a record and the queues

-- slot i gets the record r, and the queues become q
pub record Change (safe : ℕ → Type 0) (s : State) (i : ℕ) (r : TaskControlBlock) (q : Queues) : Type 0 where
  pub low : i < 64
  pub good : Good r
  -- i stands in the queues as r asks, every other slot as it did
  pub own : (b : QoSClass) → count i (of_band q b) ≡ due b r
  pub rest : (b : QoSClass) (j : ℕ) → (j ≡ i → ⊥) → count j (of_band q b) ≡ count j (queue s b)
  -- a core that holds i may hold it still
  pub may : (core : ℕ) → holder s core ≡ i → MayHold r
  -- a slot that waits and is to be left alone is not i, or does not notice; nobody comes before it
  pub alike : (x : ℕ) → safe x → (task s x).state ≡ Ready → x ≡ i → Alike r (task s i)
  pub order : (x : ℕ) → safe x → (task s x).state ≡ Ready → (b : QoSClass) → 1 ≤ count x (queue s b) →
      Sublistᴰ (before x (of_band q b)) (before x (queue s b))

-- a Ready slot stands in its band's queue
pub in_queue : (s : State) → Invariant s → (x : ℕ) → (task s x).state ≡ Ready → 1 ≤ count x (queue s (task s x).qos)
in_queue s k x ready = omega (arith, k.queued (task s x).qos x, due-ready (task s x).qos (task s x) (record { ready = ready; in_band = refl }))

pub move : {safe : ℕ → Type 0} (s : State) → Invariant s → (i : ℕ) (r : TaskControlBlock) (q : Queues) → Change safe s i r q →
    Harmless safe s (with_task (with_queues s q) i r)
move s k i r q c =
    let low : i < length s.tasks = omega (arith, k.slots, c.low) in
    record {
      invariant = record {
        slots = length-set s.tasks i r ∙ k.slots;
        cores = k.cores;
        good = each_set (λ (j : ℕ) (t : TaskControlBlock). Good t) s.tasks i r empty_record low c.good (λ j _. k.good j);
        queued = λ b. each_set (λ (j : ℕ) (t : TaskControlBlock). count j (of_band q b) ≡ due b t)
            s.tasks i r empty_record low (c.own b) (λ j other. c.rest b j other ∙ k.queued b j);
        held = λ core. held_still low core (k.held core);
      };
      undisturbed = λ x sx ready. record {
        alike = each_set (λ (j : ℕ) (t : TaskControlBlock). j ≡ x → Alike t (task s x)) s.tasks i r empty_record low
            (λ same. subst (λ (j : ℕ). Alike r (task s j)) same (c.alike x sx ready (sym same)))
            (λ j _ same. subst (λ (j2 : ℕ). Alike (task s j) (task s j2)) same (record { state = refl; band = refl; mask = refl })) x refl;
        order = c.order x sx ready (task s x).qos (in_queue s k x ready);
      };
    }
  where
    held_still : i < length s.tasks → (core : ℕ) → (holder s core ≡ none_byte) ⊎ MayHold (task s (holder s core)) →
        (holder s core ≡ none_byte) ⊎ MayHold (get_or (set s.tasks i r) (holder s core) empty_record)
    held_still low core (inl none) = inl none
    held_still low core (inr m) =
        inr (each_set (λ (j : ℕ) (t : TaskControlBlock). holder s core ≡ j → MayHold t) s.tasks i r empty_record low
        (c.may core) (λ j _ same. subst (λ (j2 : ℕ). MayHold (task s j2)) same m) (holder s core) refl)

-- whom a core holds may be held
pub holder_may : (s : State) → Invariant s → (core i : ℕ) → i < 64 → holder s core ≡ i → MayHold (task s i)
holder_may s k core i low same = held_by (k.held core)
  where
    held_by : (holder s core ≡ none_byte) ⊎ MayHold (task s (holder s core)) → MayHold (task s i)
    held_by (inl none) = absurd (omega arith)
    held_by (inr m) = subst (λ (j : ℕ). MayHold (task s j)) same m

-- ---- the queues with a slot at the tail of its band

abbrev with_tail : State → ℕ → Queues
with_tail s i = with_band s.queues (task s i).qos (pushed i (queue s (task s i).qos))

module _ (s : State) (k : Invariant s) (i : ℕ) (used : (task s i).in_use ≡ true) (idle : is_state (task s i).state Ready ≡ false) where
  abbrev es : List ℕ
  es = queue s (task s i).qos

  tail_is : pushed i es ≡ es ++ i ∷ []
  tail_is = let low : i < 64 = used_in_table s k.slots i used in pushed-taken i es (takes-slot i es low ∙ ap not (never_full s k (task s i).qos i low idle))

  count_tail : (j : ℕ) → count j (pushed i es) ≡ count j es + count j (i ∷ [])
  count_tail j = ap (count j) tail_is ∙ count_append j es (i ∷ [])

  absent : (b : QoSClass) → count i (queue s b) ≡ 0
  absent b = k.queued b i ∙ due-idle b (task s i) idle

  tail_own : (b : QoSClass) → count i (of_band (with_tail s i) b) ≡ due b (with_state (task s i) Ready)
  tail_own =
      let r : TaskControlBlock = with_state (task s i) Ready in
      let once : count i (pushed i es) ≡ 1 = omega (arith, count_tail i, absent (task s i).qos, count_one i) in
      each-queue (λ (b : QoSClass) (l : List ℕ). count i l ≡ due b r) s.queues (task s i).qos (pushed i es)
      (once ∙ sym (due-ready (task s i).qos r (record { ready = refl; in_band = refl })))
      (λ b other. absent b ∙ sym (due_not b r (λ is. other (sym is.in_band))))

  tail_rest : (b : QoSClass) (j : ℕ) → (j ≡ i → ⊥) → count j (of_band (with_tail s i) b) ≡ count j (queue s b)
  tail_rest b j other =
      each-queue (λ (c : QoSClass) (l : List ℕ). count j l ≡ count j (queue s c)) s.queues (task s i).qos (pushed i es)
      (let same : count j (pushed i es) ≡ count j es = omega (arith, count_tail j, count_other j i other) in same)
      (λ c _. refl) b

  tail_order : (x : ℕ) (b : QoSClass) → 1 ≤ count x (queue s b) → Sublistᴰ (before x (of_band (with_tail s i) b)) (before x (queue s b))
  tail_order x =
      each-queue (λ (b : QoSClass) (l : List ℕ). 1 ≤ count x (queue s b) → Sublistᴰ (before x l) (before x (queue s b)))
      s.queues (task s i).qos (pushed i es)
      (λ there. rw tail_is (rw (before_append x es (i ∷ []) there) (Sublistᴰ.refl (before x es))))
      (λ b _ _. Sublistᴰ.refl (before x (queue s b)))

-- ---- the changes

module _ {safe : ℕ → Type 0} (s : State) (k : Invariant s) where
  -- a record alone, which asks of the queues what the old one asked
  pub put : (i : ℕ) (r : TaskControlBlock) → i < 64 → Good r → ((b : QoSClass) → due b r ≡ due b (task s i)) →
      (MayHold (task s i) → MayHold r) → ((x : ℕ) → safe x → (task s x).state ≡ Ready → x ≡ i → Alike r (task s i)) →
      Harmless safe s (with_task s i r)
  put i r low good dues may alike = move s k i r s.queues (record {
    low = low;
    good = good;
    own = λ b. k.queued b i ∙ sym (dues b);
    rest = λ b j _. refl;
    may = λ core same. may (holder_may s k core i low same);
    alike = alike;
    order = λ x _ _ b _. Sublistᴰ.refl (before x (queue s b));
  })

  -- a slot that was not waiting goes to the tail of its band
  pub to_tail : (i : ℕ) → (task s i).in_use ≡ true → is_state (task s i).state Ready ≡ false → Harmless safe s (enqueued i s)
  to_tail i used idle = move s k i (with_state (task s i) Ready) (with_tail s i) (record {
    low = used_in_table s k.slots i used;
    good = record { in_use = used; mask = (k.good i).mask; budget = (k.good i).budget; consumed = (k.good i).consumed };
    own = tail_own s k i used idle;
    rest = tail_rest s k i used idle;
    may = λ core same. let m : MayHold (task s i) = holder_may s k core i (used_in_table s k.slots i used) same in
        record { used = m.used; budget_is = m.budget_is };
    alike = λ x _. waits-elsewhere s i idle x;
    order = λ x _ _. tail_order s k i used idle x;
  })

  -- a slot leaves the queues with a record that asks for no place
  pub out : (i : ℕ) (r : TaskControlBlock) → i < 64 → Good r → is_state r.state Ready ≡ false →
      ((core : ℕ) → holder s core ≡ i → MayHold r) → ((x : ℕ) → safe x → x ≡ i → ⊥) → Harmless safe s (with_task (out_of_queues i s) i r)
  out i r low good idle may apart = move s k i r (each_queue (without i) s.queues) (record {
    low = low;
    good = good;
    own = λ b. ap (count i) (of_band-each (without i) s.queues b) ∙ count-without-same i (queue s b) ∙ sym (due-idle b r idle);
    rest = λ b j other. ap (count j) (of_band-each (without i) s.queues b) ∙ count-without_other i j (queue s b) other;
    may = may;
    alike = λ x sx _ same. absurd (apart x sx same);
    order = λ x sx _ b _. rw (of_band-each (without i) s.queues b) (before-without x i (queue s b) (apart x sx));
  })

  -- ---- holders and microseconds

  pub holders : (hs : List ℕ) → length hs ≡ 64 → ((core : ℕ) → (get_or hs core none_byte ≡ none_byte) ⊎ MayHold (task s (get_or hs core none_byte))) →
      Harmless safe s (with_holders s hs)
  holders hs whole held = record {
    invariant = record { slots = k.slots; cores = whole; good = k.good; queued = k.queued; held = held };
    undisturbed = λ x _ _. unseen x s hs s.micros;
  }

  -- one core's holder becomes none, or one that may be held
  pub hold : (core h : ℕ) → core < 64 → (h ≡ none_byte) ⊎ MayHold (task s h) → Harmless safe s (with_holder s core h)
  hold core h low may =
      holders (set s.holders core h) (length-set s.holders core h ∙ k.cores)
      (each_set (λ (c g : ℕ). (g ≡ none_byte) ⊎ MayHold (task s g)) s.holders core h none_byte (omega (arith, k.cores)) may (λ c _. k.held c))

  pub time : (n : ℕ) → Harmless safe s (with_micros s n)
  time n = record {
    invariant = record { slots = k.slots; cores = k.cores; good = k.good; queued = k.queued; held = k.held };
    undisturbed = λ x _ _. unseen x s s.holders n;
  }
