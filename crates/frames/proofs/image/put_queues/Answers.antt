-- `put_queues` meets its contract: three queues, one behind the other. Assumes nothing.
use native.Mathlib.Omega.{arith}
use Rattle.frames.specs.Image.{queues_place}
use Rattle.frames.proofs.Writings.{queues_put}
use Rattle.frames.proofs.image.put_queues.Goals as goal

pub returns : goal.returns
returns c = queues_put c.args.queues.now (omega arith) c.args.out.now queues_place _ _ _ c.put_queue.ensures c.put_queue-2.ensures c.put_queue-3.ensures
