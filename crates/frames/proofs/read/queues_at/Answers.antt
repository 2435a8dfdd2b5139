-- `queues_at` meets its contract: a queue for each band, in the order of picks. Assumes nothing.
use Rattle.std.proofs.Common.{rules}
use Rattle.frames.proofs.Readings.{queues_are}
use Rattle.frames.proofs.read.queues_at.Goals as goal

pub returns : goal.returns
returns c = queues_are c.args.image.now _ _ _ c.map.ensures.items (λ band q f called. search rules)
