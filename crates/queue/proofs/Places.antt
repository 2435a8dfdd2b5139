-- The stored queue's length, the entry at one of its places, and its places filled one by one. Assumes nothing.
use mathlib.Core.Path.{◌≡◌, refl, sym, ap, ◌∙◌}
use mathlib.Core.List.{List, [], ◌∷◌, ◌++◌}
use Prim.Native.Nat.{ℕ, suc, ◌+◌, ◌-◌, ◌%◌, ◌≤◌, ◌<◌}
use native.Mathlib.Omega.{arith}
use native.Mathlib.Numerals.{add-one}
use lib.ListN.{length, get_or, set, replicate, length-append}
use lib.Seq.{set-append_seam, append_snoc}
use Rattle.records.specs.declared.ids.Slot.{Slot}
use Rattle.std.specs.Prelude.{None, Some}
use Rattle.queue.specs.declared.BandQueue.{BandQueue}
use Rattle.queue.specs.Entries.{entry_at, places}
use Rattle.queue.specs.Stored.{entries, window}
use Rattle.queue.proofs.Entries.{entry_at_in, entry_at-past}
use Rattle.queue.proofs.Ring.{length_window, window_at, window_more}

module _ (q : BandQueue) where
  pub length_entries : length (entries q) ≡ q.len
  unfolding entries
  length_entries = length_window q.ring q.head q.len

  pub entry_past : (place : ℕ) → q.len ≤ place → None ≡ entry_at place (entries q)
  entry_past place past = sym (entry_at-past place (entries q) (omega (arith, length_entries)))

  pub entry_in : (place : ℕ) (slot : Slot) → place < q.len → slot.0 ≡ get_or q.ring ((q.head + place) % 64) 0 → Some slot ≡ entry_at place (entries q)
  unfolding entries
  entry_in place slot l is =
      sym (entry_at_in place (entries q) slot (omega (arith, length_entries)) (window_at q.ring q.head q.len place l ∙ sym is))

-- ---- the 64 places

pub places-none : replicate 64 0 ≡ places []
unfolding places
places-none = refl

-- one more entry, stored behind those that are there
places-more : (es : List ℕ) (e : ℕ) → length es < 64 → set (places es) (length es) e ≡ places (es ++ e ∷ [])
unfolding places
places-more es e l =
    let fewer : 64 - length es ≡ suc (64 - length (es ++ e ∷ [])) = omega (arith, length-append es (e ∷ [])) in
    ap (λ (n : ℕ). set (es ++ replicate n 0) (length es) e) fewer
    ∙ set-append_seam es 0 (replicate (64 - length (es ++ e ∷ [])) 0) e
    ∙ sym (append_snoc es e (replicate (64 - length (es ++ e ∷ [])) 0))

pub places_on : (r : List ℕ) (h n : ℕ) {now : List ℕ} → n < 64 → now ≡ places (window r h n) → set now n (get_or r ((h + n) % 64) 0) ≡ places (window r h (n + 1))
places_on r h n l e =
    let last = get_or r ((h + n) % 64) 0 in
    (λ i. set (e i) (sym (length_window r h n) i) last)
    ∙ places-more (window r h n) last (omega (arith, length_window r h n))
    ∙ ap places (sym (window_more r h n))
    ∙ ap (λ (m : ℕ). places (window r h m)) (sym (add-one n))
