-- `write_new_image` meets its contract: what the writer promises of the new state. Assumes nothing.
use Rattle.frames.proofs.Hosting.{new_made}
use Rattle.frames.proofs.host.write_new_image.Goals as goal

pub returns : goal.returns
returns c = new_made c.new.ensures c.write_image.ensures
