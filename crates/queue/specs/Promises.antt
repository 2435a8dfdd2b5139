-- The whole answers of push and take: what is answered, and the queue as it is then.
use Rattle.std.specs.Prelude.{◌≡◌, ℕ, Option, Result}
use Rattle.records.specs.declared.error.SchedError.{SchedError}
use Rattle.records.specs.declared.ids.Slot.{Slot}
use Rattle.queue.specs.declared.BandQueue.{BandQueue}
use Rattle.queue.specs.Entries.{push_result, pushed, entry_at, taken_at}
use Rattle.queue.specs.Stored.{entries}

-- what a push of a slot answers, and leaves behind the reference
pub record Push (before : BandQueue) (slot : Slot) (answer : Result Unit SchedError) (after : BandQueue) : Type 0 where
  pub answer_is : answer ≡ push_result slot.0 (entries before)
  pub entries_are : entries after ≡ pushed slot.0 (entries before)

-- what taking the entry at a place answers, and leaves
pub record Take (before : BandQueue) (place : ℕ) (answer : Option Slot) (after : BandQueue) : Type 0 where
  pub answer_is : answer ≡ entry_at place (entries before)
  pub entries_are : entries after ≡ taken_at place (entries before)
