-- Document 01's rules for a queue, on its list of entries from front to tail: the table of refusals (full), "Waiting and waking" (push and
-- removal), "Picking" (the entry at a place, and taking it) and "Task record, queues, holders" (places).
use Rattle.std.specs.Prelude.{Bool, cond, not, ◌&&◌, List, [], ◌∷◌, ◌++◌, ℕ, suc, ◌-◌, ltb, leb, eqb, length, get_or, take, drop, replicate, Option, None, Some, Result, Ok, Err}
use Rattle.records.specs.declared.error.SchedError.{SchedError}
use Rattle.records.specs.declared.error.SchedError.TheVariants.{QueueFull, NoSuchTask}
use Rattle.records.specs.declared.ids.Slot.{Slot}

-- "64 entries stand in it"
abbrev pub full : List ℕ → Bool
full es = leb 64 (length es)

-- a push is taken: the number is a slot of the table, and the queue has room
abbrev pub takes : ℕ → List ℕ → Bool
takes slot es = ltb slot 64 && not (full es)

-- what a push answers: where it is not taken, 2 for a slot of the table, for which there is no room, and 3 for a number that is none
abbrev pub push_result : ℕ → List ℕ → Result Unit SchedError
push_result slot es = cond (takes slot es) (Ok tt) (Err (cond (ltb slot 64) QueueFull NoSuchTask))

-- enqueue: "goes to the tail of its band"; a push that is not taken changes nothing
unfoldable pub pushed : ℕ → List ℕ → List ℕ
pushed slot es = cond (takes slot es) (es ++ slot ∷ []) es

-- "taken out of the queues": every entry of the slot goes, and "Removal keeps the order of the rest"
unfoldable pub without : ℕ → List ℕ → List ℕ
without slot [] = []
without slot (e ∷ es) = cond (eqb e slot) (without slot es) (e ∷ without slot es)

-- the entry at a place, counted from 0 at the front; none past the tail
unfoldable pub entry_at : ℕ → List ℕ → Option Slot
entry_at place es = cond (ltb place (length es)) (Some (record { 0 = get_or es place 0 })) None

-- rule P: "Entries before it move to that queue's tail in their order and it leaves." Past the tail this is the list itself.
unfoldable pub taken_at : ℕ → List ℕ → List ℕ
taken_at place es = drop (suc place) es ++ take place es

-- the image's "64 slot bytes from front to tail, unused ones 0"
unfoldable pub places : List ℕ → List ℕ
places es = es ++ replicate (64 - length es) 0
