-- The loop of `remove`: each turn looks at one entry, and stores it at the end of those kept unless it is the slot. Assumes nothing.
use mathlib.Core.Path.{◌≡◌, sym, ap, ◌∙◌}
use mathlib.Core.List.{List, [], ◌∷◌, ◌++◌, append_assoc, append-nil}
use Prim.Native.Nat.{ℕ, ◌+◌, ◌-◌, ◌%◌, ◌≤◌, ◌<◌}
use native.Mathlib.Nat.{add-zero, sub-zero}
use native.Mathlib.Numerals.{add-one}
use native.Mathlib.Omega.{arith}
use lib.ListN.{length, get_or, set, length-set}
use Rattle.queue.specs.declared.BandQueue.{BandQueue}
use Rattle.queue.specs.Entries.{without}
use Rattle.queue.specs.Stored.{window, entries}
use Rattle.queue.proofs.Entries.{without-same, without_other}
use Rattle.queue.proofs.Ring.{window_next, window_apart, window_store}

-- the ring's entries from `place` on are still to be looked at, and of those before it `kept` were kept, at the front:
-- those and what will be kept of the rest are what the removal asks for
pub record Removing (q : BandQueue) (slot : ℕ) (ring : List ℕ) (kept place : ℕ) : Type 0 where
  pub whole : length ring ≡ 64
  pub kept_le : kept ≤ place
  pub place_le : place ≤ q.len
  pub left : window ring q.head kept ++ without slot (window ring (q.head + place) (q.len - place)) ≡ without slot (entries q)

module _ (q : BandQueue) (slot : ℕ) where
  pub removing_start : Removing q slot q.ring 0 0
  unfolding window entries
  removing_start = record {
    whole = q.whole;
    kept_le = omega arith;
    place_le = omega arith;
    left = λ i. without slot (window q.ring (add-zero q.head i) (sub-zero q.len i));
  }

  module _ (ring : List ℕ) (kept place : ℕ) (t : Removing q slot ring kept place) (more : place < q.len) where
    -- the entry looked at, and those behind it
    abbrev entry : ℕ
    entry = get_or ring ((q.head + place) % 64) 0

    abbrev behind : List ℕ
    behind = window ring (q.head + (place + 1)) (q.len - (place + 1))

    left_next : window ring q.head kept ++ without slot (entry ∷ behind) ≡ without slot (entries q)
    left_next = ap (λ (l : List ℕ). window ring q.head kept ++ without slot l) (sym (window_next ring q.head q.len place more)) ∙ t.left

    pub removing_drop : entry ≡ slot → Removing q slot ring kept (place + 1)
    removing_drop is = record {
      whole = t.whole;
      kept_le = omega arith;
      place_le = omega arith;
      left = ap (λ (l : List ℕ). window ring q.head kept ++ l) (sym (without-same slot entry behind is)) ∙ left_next;
    }

    -- the entry is stored behind those kept before it, and what is still to be looked at is not touched
    module _ (other : entry ≡ slot → ⊥) where
      abbrev after : List ℕ
      after = set ring ((q.head + kept) % 64) entry

      kept_one : window after q.head (kept + 1) ≡ window ring q.head kept ++ entry ∷ []
      kept_one = ap (window after q.head) (add-one kept) ∙ window_store ring q.head kept entry t.whole (omega arith)

      rest_same : window after (q.head + (place + 1)) (q.len - (place + 1)) ≡ behind
      rest_same = window_apart ring (q.head + (place + 1)) (q.len - (place + 1)) _ _ (λ j l e. omega arith)

      pub removing_keep : Removing q slot after (kept + 1) (place + 1)
      removing_keep = record {
        whole = length-set ring _ _ ∙ t.whole;
        kept_le = omega arith;
        place_le = omega arith;
        left =
            (λ i. kept_one i ++ without slot (rest_same i))
            ∙ append_assoc (window ring q.head kept) (entry ∷ []) (without slot behind)
            ∙ ap (λ (l : List ℕ). window ring q.head kept ++ l) (sym (without_other slot entry behind other))
            ∙ left_next;
      }

  -- once all were looked at, those kept are what the removal asks for
  pub removed : (ring : List ℕ) (kept place : ℕ) → Removing q slot ring kept place → q.len ≤ place
      → window ring q.head kept ≡ without slot (entries q)
  unfolding window without
  removed ring kept place t end =
      let none : q.len - place ≡ 0 = omega arith in
      sym (append-nil (window ring q.head kept))
      ∙ ap (λ (n : ℕ). window ring q.head kept ++ without slot (window ring (q.head + place) n)) (sym none)
      ∙ t.left
