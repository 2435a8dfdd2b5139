-- `queue_in` meets its contract: as many of its places as its length says. Assumes nothing.
use Rattle.frames.proofs.Readings.{queue_is}
use Rattle.frames.proofs.read.queue_in.Goals as goal

pub returns : goal.returns
returns c = queue_is c.args.image.now c.args.band c.queue_at-len.ensures.len c.queue_at-len.ensures.places c.from_places.ensures
