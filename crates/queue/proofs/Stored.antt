-- A queue that stands at the front of its ring: its entries are the first places. So every list of at most 64 entries is stored by some queue,
-- with zeros in the places behind it. Assumes nothing.
use mathlib.Core.Path.{◌≡◌, sym, ap, ◌∙◌}
use mathlib.Core.List.{List}
use Prim.Native.Nat.{ℕ, ◌+◌, ◌-◌, ◌%◌, ◌≤◌, ◌<◌}
use native.Mathlib.Omega.{arith}
use lib.ListN.{length, get_or, take, replicate}
use Rattle.std.specs.Prelude.{min}
use Rattle.std.proofs.lemmas.List.{take_min}
use lib.Seq.{ext_get_or, get_or-take, length-take-le, take-append_seam}
use Rattle.queue.specs.declared.BandQueue.{BandQueue}
use Rattle.queue.specs.Stored.{window, entries}
use Rattle.queue.specs.Entries.{places}
use Rattle.queue.proofs.Entries.{length-places}
use Rattle.queue.proofs.Places.{length_entries}
use Rattle.queue.proofs.Ring.{length_window, window_at}

module _ (ring : List ℕ) (whole : length ring ≡ 64) where
  window_front : (n : ℕ) → n ≤ 64 → window ring 0 n ≡ take n ring
  window_front n small =
      let long : length (take n ring) ≡ n = length-take-le n ring (omega (arith, whole)) in
      ext_get_or 0 (window ring 0 n) (take n ring) (length_window ring 0 n ∙ sym long) (λ i l.
      let low : i < n = omega (arith, length_window ring 0 n) in
      let place : (0 + i) % 64 ≡ i = omega arith in
      window_at ring 0 n i low ∙ ap (λ (p : ℕ). get_or ring p 0) place ∙ sym (get_or-take n ring i 0 low))

  -- a length past the ring's end takes all of it
  pub window_places : (n : ℕ) → window ring 0 (min n 64) ≡ take n ring
  window_places n = window_front (min n 64) (omega arith) ∙ ap (λ (m : ℕ). take (min n m) ring) (sym whole) ∙ take_min n ring

-- a stored queue has at most 64 entries
pub entries_short : (q : BandQueue) → length (entries q) ≤ 64
entries_short q = omega (arith, length_entries q, q.len_in)

-- the first of a list's 64 places are the list
pub take_places : (es : List ℕ) → take (length es) (places es) ≡ es
unfolding places
take_places es = take-append_seam es (replicate (64 - length es) 0)

pub stored : (es : List ℕ) → length es ≤ 64 → (q : BandQueue) × (entries q ≡ es)
unfolding entries
stored es small = (
  record { ring = places es; head = 0; len = length es; whole = length-places es small; head_in = omega arith; len_in = small },
  window_front (places es) (length-places es small) (length es) small ∙ take_places es,
)
