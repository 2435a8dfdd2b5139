-- `read_image` meets its contract: an image whose status is that it is accepted is one. Assumes nothing.
use Rattle.std.proofs.Common.{subst, sym}
use Rattle.frames.specs.AcceptedImage.{AcceptedImage}
use Rattle.frames.proofs.Statuses.{status_says}
use Rattle.frames.proofs.read.read_image.Goals as goal

pub state_at-requires : goal.state_at-requires
state_at-requires c = let found = c.in-Ok.ensures in subst AcceptedImage (sym found.0) (status_says c.args.image.now found.1)
