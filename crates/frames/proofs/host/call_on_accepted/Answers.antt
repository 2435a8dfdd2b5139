-- `call_on_accepted` meets its contract: a refused call leaves the image, and after any other the records that it left are not written.
-- Assumes nothing.
use mathlib.Core.Path.{◌≡◌, sym, ap, ◌∙◌}
use Rattle.std.proofs.lemmas.Option.{MatchOption-at_some}
use Rattle.rules.specs.Touched.{named_slot}
use Rattle.frames.specs.Image.{state_at}
use Rattle.frames.proofs.Hosting.{answers_refused, untouched}
use Rattle.frames.proofs.host.call_on_accepted.Goals as goal
use Rattle.frames.proofs.host.call_on_accepted.Goals.{After-unwrap-before}

whole : (c : After-unwrap-before) → c.unwrap-before.result.now ≡ c.args.image.now
whole c = (MatchOption-at_some _ _ _ c.unwrap-before.ensures c.as_array.ensures.cases).same

pub update_image-requires-clause-same_but : goal.update_image-requires-clause-same_but
update_image-requires-clause-same_but c =
    let is = whole (goal.at.update_image-requires-clause-same_but c).After-unwrap-before in
    untouched c.args.call c.args.image.now (c.state_at.ensures ∙ ap state_at is) c.apply-reply.ensures
    (c.named_slot-named.ensures ∙ ap (λ image. named_slot c.args.call (state_at image)) is) c.answered_slot.ensures

pub returns-else-is_ok : goal.returns-else-is_ok
returns-else-is_ok c =
    answers_refused c.args.call c.args.image.now (c.state_at.ensures ∙ ap state_at (whole (goal.at.returns-else-is_ok c).After-unwrap-before))
    c.apply-reply.ensures c.requires
    (sym c.is_ok.ensures.value ∙ c.if-is_ok.false)
