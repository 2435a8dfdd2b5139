-- `holders_at` meets its contract: they are 64 bytes of the image. Assumes nothing.
use Rattle.frames.specs.Image.{state_at}
use Rattle.std.proofs.lemmas.Option.{MatchOption-at_some}
use Rattle.frames.proofs.parts.holders_at.Goals as goal

pub returns : goal.returns
unfolding state_at
returns c = (MatchOption-at_some _ _ _ c.unwrap.ensures c.as_array.ensures.cases).same
