-- `write_image` meets its contract: records, queues, holders and microseconds, one behind the other, fill the buffer. Assumes nothing.
use mathlib.Core.Path.{ap, ◌∙◌}
use Rattle.rules.proofs.Accepts.{accepts_sound}
use Rattle.scheduler.specs.Scheduler.{abs}
use Rattle.frames.specs.Private.{with_rest}
use Rattle.frames.proofs.Typed.{typed_image}
use Rattle.frames.proofs.Writings.{image_put, image_written, image_unwritten}
use Rattle.frames.proofs.image.write_image.Goals as goal

pub returns-then-image-ne-IMAGE_BYTES : goal.returns-then-image-ne-IMAGE_BYTES
returns-then-image-ne-IMAGE_BYTES c = image_unwritten (typed_image c.args.state _ c.well_formed.0) _ c.if-image-ne-IMAGE_BYTES.true

pub returns : goal.returns
unfolding abs
returns c =
    let long = c.if-image-ne-IMAGE_BYTES.false in
    let s = c.args.state in
    image_written (typed_image c.args.state _ c.well_formed.0) _ long
    (c.put_rest.ensures ∙ ap (with_rest (abs s)) c.put_records.ensures ∙ image_put (abs s) (accepts_sound (abs s) s.accepted) _ long)
