-- Document 01, "Task record, queues, holders": "A queue is its entries from front to tail; how they are stored is no part of the state."
-- This file says which entries a stored queue has. The crates above cite `entries` and do not look into it.
use Rattle.std.specs.Prelude.{List, [], ◌∷◌, ℕ, zero, suc, ◌%◌, get_or}
use Rattle.queue.specs.declared.BandQueue.{BandQueue}

-- the n numbers of the ring from place h on, going round its end
unfoldable pub window : List ℕ → ℕ → ℕ → List ℕ
window ring h zero = []
window ring h (suc n) = get_or ring (h % 64) 0 ∷ window ring (suc h) n

-- the slots that wait, from front to tail
unfoldable pub entries : BandQueue → List ℕ
entries q = window q.ring q.head q.len
