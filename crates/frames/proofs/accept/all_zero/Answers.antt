-- `all_zero` meets its contract: a sum is 0 where all its parts are. Assumes nothing.
use Rattle.std.proofs.Common.{◌≡◌, ℕ, ap, ◌∙◌, rules}
use lib.Dec.{eqb}
use Rattle.std.specs.Prelude.{sum}
use Rattle.frames.proofs.Passing.{zero_sum}
use Rattle.frames.proofs.accept.all_zero.Goals as goal

pub returns : goal.returns
returns c =
    let is : c.sum-sum.result ≡ sum c.args.bytes.now = search rules in
    ap (λ (n : ℕ). eqb n 0) is ∙ zero_sum c.args.bytes.now
