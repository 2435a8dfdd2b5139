-- `cores_fit` meets its contract: each core's holder is asked. Assumes nothing.
use Rattle.std.proofs.Common.{rules}
use Rattle.rules.specs.Accepted.{holder_fits}
use Rattle.frames.specs.Image.{state_at}
use Rattle.frames.proofs.Accepting.{cores_tested}
use Rattle.frames.proofs.Passing.{every_as}
use Rattle.frames.proofs.accept.cores_fit.Goals as goal

pub returns : goal.returns
returns c =
    let image = c.args.image.now in
    every_as (holder_fits (state_at image)) c.holders_at.result.now (search rules) (cores_tested image c.holders_at.ensures (search rules)) (search rules)
