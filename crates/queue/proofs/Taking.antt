-- The loop of `take_at`: each turn sends the front to the tail. Assumes nothing.
use mathlib.Core.Path.{◌≡◌, sym, ap, ◌∙◌}
use mathlib.Core.List.{List, [], ◌∷◌, ◌++◌, append_assoc, append-nil}
use Prim.Native.Nat.{ℕ, suc, ◌+◌, ◌-◌, ◌%◌, ◌≤◌, ◌<◌}
use native.Mathlib.Numerals.{add-one}
use native.Mathlib.Omega.{arith}
use lib.ListN.{length, get_or, set, take, drop, length-set}
use lib.Seq.{drop-cons, take-suc}
use Rattle.records.specs.declared.ids.Slot.{Slot}
use Rattle.std.specs.Prelude.{None, Some}
use Rattle.queue.specs.declared.BandQueue.{BandQueue}
use Rattle.queue.specs.Promises.{Take}
use Rattle.queue.specs.Entries.{entry_at, taken_at}
use Rattle.queue.specs.Stored.{window, entries}
use Rattle.queue.proofs.Entries.{entry_at_in, taken_at-past}
use Rattle.queue.proofs.Ring.{window_front, window-behind, window-turn}
use Rattle.queue.proofs.Places.{length_entries, entry_past}

-- the list once its first k entries have gone to the tail, in their order
abbrev turned : ℕ → List ℕ → List ℕ
turned k es = drop k es ++ take k es

turned-front : (k : ℕ) (es : List ℕ) → k < length es → turned k es ≡ get_or es k 0 ∷ taken_at k es
unfolding taken_at
turned-front k es l = ap (λ (d : List ℕ). d ++ take k es) (drop-cons es k 0 l)

turned_more : (k : ℕ) (es : List ℕ) → k < length es → taken_at k es ++ get_or es k 0 ∷ [] ≡ turned (suc k) es
unfolding taken_at
turned_more k es l =
    append_assoc (drop (suc k) es) (take k es) (get_or es k 0 ∷ [])
    ∙ ap (λ (t : List ℕ). drop (suc k) es ++ t) (sym (take-suc es k 0 l))

-- `moved` of q's entries have gone from the front to the tail; the front stands at `head` of the ring
pub record Turned (q : BandQueue) (moved : ℕ) (ring : List ℕ) (head : ℕ) : Type 0 where
  pub whole : length ring ≡ 64
  pub head_in : head < 64
  pub stands : window ring head q.len ≡ turned moved (entries q)

module _ (q : BandQueue) where
  -- past the tail nothing leaves and nothing moves
  pub taken_none : (place : ℕ) → q.len ≤ place → Take q place None q
  taken_none place past = record {
    answer_is = entry_past q place past;
    entries_are = sym (taken_at-past place (entries q) (omega (arith, length_entries q)));
  }

  pub turned_none : Turned q 0 q.ring q.head
  unfolding entries
  turned_none = record { whole = q.whole; head_in = q.head_in; stands = sym (append-nil (entries q)) }

  module _ (moved : ℕ) (ring : List ℕ) (head : ℕ) (t : Turned q moved ring head) (more : moved < q.len) where
    -- the front is the entry at place `moved`
    front : window ring head q.len ≡ get_or (entries q) moved 0 ∷ taken_at moved (entries q)
    front = t.stands ∙ turned-front moved (entries q) (omega (arith, length_entries q))

    pub turned_one : Turned q (moved + 1) (set ring ((head + q.len) % 64) (get_or ring head 0)) ((head + 1) % 64)
    turned_one = record {
      whole = length-set ring ((head + q.len) % 64) (get_or ring head 0) ∙ t.whole;
      head_in = omega arith;
      stands =
          window-turn ring head q.len t.whole t.head_in q.len_in front
          ∙ turned_more moved (entries q) (omega (arith, length_entries q))
          ∙ ap (λ (k : ℕ). turned k (entries q)) (sym (add-one moved));
    }

    -- and leaves, the rest standing behind it
    pub turned_answer : (slot : Slot) → slot.0 ≡ get_or ring head 0 → Some slot ≡ entry_at moved (entries q)
    turned_answer slot is =
        sym (entry_at_in moved (entries q) slot (omega (arith, length_entries q)) (sym (is ∙ window_front ring head q.len t.head_in front)))

    pub turned_rest : window ring ((head + 1) % 64) (q.len - 1) ≡ taken_at moved (entries q)
    turned_rest = window-behind ring head q.len front
