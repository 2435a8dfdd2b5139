-- What the parts of a stored scheduler hold, as document 01's state.
use Rattle.std.specs.Prelude.{List, [], ℕ, map, slice_index_or}
use Rattle.records.specs.declared.task.TaskControlBlock.{TaskControlBlock}
use Rattle.queue.specs.declared.BandQueue.{BandQueue}
use Rattle.queue.specs.Stored.{entries}
use Rattle.rules.specs.State.{State, Queues}

-- "three queues, one a band, held together as one array": a band's queue stands at the band's code
unfoldable pub queues_of : List BandQueue → Queues
queues_of qs = record {
  interactive = slice_index_or (map entries qs) 0 [];
  real_time = slice_index_or (map entries qs) 1 [];
  background = slice_index_or (map entries qs) 2 [];
}

-- "A queue is its entries from front to tail; how they are stored is no part of the state."
abbrev pub state_of : List TaskControlBlock → List BandQueue → List ℕ → ℕ → State
state_of tasks queues current micros = record { tasks = tasks; queues = queues_of queues; holders = current; micros = micros }
