-- The answers of a push: refused for a number that is no slot, refused for a full queue, and taken. Assumes nothing.
use mathlib.Core.Path.{◌≡◌, sym, ap, ◌∙◌}
use mathlib.Core.Bool.{true, false, not}
use Prim.Native.Nat.{◌+◌, ◌%◌, ◌≤◌, ◌<◌}
use native.Mathlib.Numerals.{add-one}
use native.Mathlib.Omega.{arith}
use borrow.Author.Tests.{lt-ltb, le-ltb, le-leb, lt-leb}
use lib.ListN.{length, set}
use Rattle.std.specs.Prelude.{Ok, Err}
use Rattle.records.specs.declared.error.SchedError.TheVariants.{QueueFull, NoSuchTask}
use Rattle.records.specs.declared.ids.Slot.{Slot}
use Rattle.queue.specs.declared.BandQueue.{BandQueue}
use Rattle.queue.specs.Promises.{Push}
use Rattle.queue.specs.Entries.{full, push_result, takes, pushed}
use Rattle.queue.specs.Stored.{window, entries}
use Rattle.queue.proofs.Entries.{takes-slot, pushed-taken, pushed-refused}
use Rattle.queue.proofs.Ring.{window_store}
use Rattle.queue.proofs.Places.{length_entries}

-- no slot of the table
pub push_no_slot : (q : BandQueue) (slot : Slot) → 64 ≤ slot.0 → Push q slot (Err NoSuchTask) q
push_no_slot q slot past = record {
  answer_is = rw (le-ltb slot.0 64 past);
  entries_are = sym (pushed-refused slot.0 (entries q) (rw (le-ltb slot.0 64 past)));
}

module _ (q : BandQueue) (slot : Slot) (there : slot.0 < 64) where
  is_full : 64 ≤ q.len → full (entries q) ≡ true
  is_full stands = le-leb 64 (length (entries q)) (omega (arith, length_entries q))

  pub takes_full : 64 ≤ q.len → takes slot.0 (entries q) ≡ false
  takes_full stands = takes-slot slot.0 (entries q) there ∙ ap not (is_full stands)

  pub pushed_full : 64 ≤ q.len → pushed slot.0 (entries q) ≡ entries q
  pushed_full stands = pushed-refused slot.0 (entries q) (takes_full stands)

  -- 64 entries stand in it; for `push` the check finds this by the two above
  pub push_full : 64 ≤ q.len → Push q slot (Err QueueFull) q
  push_full stands = record {
    answer_is = rw (lt-ltb slot.0 64 there, is_full stands);
    entries_are = sym (pushed_full stands);
  }

  has_room : q.len < 64 → full (entries q) ≡ false
  has_room room = lt-leb 64 (length (entries q)) (omega (arith, length_entries q))

  pub push_answers : q.len < 64 → Ok tt ≡ push_result slot.0 (entries q)
  push_answers room = rw (lt-ltb slot.0 64 there, has_room room)

  pub push_stores : q.len < 64 → window (set q.ring ((q.head + q.len) % 64) slot.0) q.head (q.len + 1) ≡ pushed slot.0 (entries q)
  unfolding entries
  push_stores room =
      ap (window (set q.ring ((q.head + q.len) % 64) slot.0) q.head) (add-one q.len)
      ∙ window_store q.ring q.head q.len slot.0 q.whole room
      ∙ sym (pushed-taken slot.0 (entries q) (takes-slot slot.0 (entries q) there ∙ ap not (has_room room)))
