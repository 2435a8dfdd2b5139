-- `is_in_use` meets its contract: the byte that is read is the record's. Assumes nothing.
use Rattle.std.proofs.Common.{ℕ, ap}
use lib.Dec.{eqb}
use Rattle.frames.specs.Image.{record_in}
use Rattle.frames.proofs.fields.is_in_use.Goals as goal

pub returns : goal.returns
unfolding record_in
returns c = ap (λ (n : ℕ). eqb n 1) c.number.ensures.is
