-- `accepts_image` meets its contract: the bytes are an image's length of bytes, or not. Assumes nothing.
use Rattle.frames.proofs.Accepting.{accepts_whole}
use Rattle.frames.proofs.accept.accepts_image.Goals as goal

pub returns : goal.returns
returns c = accepts_whole c.args.image.now c.as_array.result c.as_array.ensures.cases c.is_some_and.ensures
