-- `put_queue` meets its contract: the length, then the places behind it. Assumes nothing.
use Rattle.queue.proofs.Stored.{entries_short}
use Rattle.frames.proofs.Writings.{queue_put}
use Rattle.frames.proofs.image.put_queue.Goals as goal

pub returns : goal.returns
returns c =
    queue_put _ (entries_short c.args.queue.now) _ _ c.put_number.ensures c.len.ensures c.put_bytes.ensures c.places.ensures
