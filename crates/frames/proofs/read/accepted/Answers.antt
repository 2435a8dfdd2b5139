-- `accepted` meets its contract: a law for each way out. Assumes nothing.
use Rattle.std.proofs.Common.{ap, ◌∙◌}
use Rattle.frames.specs.AcceptedImage.{accepts_image}
use Rattle.frames.proofs.Statuses.{status_length, status_refused, status_passed}
use Rattle.frames.proofs.read.accepted.Goals as goal

pub returns-in_default : goal.returns-in_default
returns-in_default c = status_length c.args.image.now c.in_default.ensures.cases

pub returns-then-not-accepts : goal.returns-then-not-accepts
returns-then-not-accepts c =
    let same = c.in-Some.ensures.cases in
    status_refused c.args.image.now same.long (c.accepts.ensures ∙ ap accepts_image same.same) c.if-not-accepts.true

pub returns : goal.returns
returns c =
    let same = c.in-Some.ensures.cases in
    (same.same, status_passed c.args.image.now same.long (c.accepts.ensures ∙ ap accepts_image same.same) c.if-not-accepts.false)
