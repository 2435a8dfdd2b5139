-- `band_fits` meets its contract: a law for a queue that is too long, and one for its places. Assumes nothing.
use Rattle.std.proofs.Common.{rules, ap, refl, ◌∙◌}
use Rattle.frames.specs.Private.{all_zero}
use Rattle.frames.proofs.Accepting.{band_long, band_tested}
use Rattle.frames.proofs.Passing.{passed_on, failed_on}
use Rattle.frames.proofs.accept.band_fits.Goals as goal

pub returns-then-len-gt-MAX_TASKS : goal.returns-then-len-gt-MAX_TASKS
returns-then-len-gt-MAX_TASKS c = band_long c.args.image.now c.args.band c.queue_at-len.ensures.len c.if-len-gt-MAX_TASKS.true

pub returns-then-all : goal.returns-then-all
returns-then-all c =
    passed_on refl c.if-all.true refl
    ∙ band_tested c.args.image.now c.args.band c.queue_at-len.ensures.len c.if-len-gt-MAX_TASKS.false
    (search rules) c.queue_at-len.ensures.places (search rules) (c.all_zero.ensures ∙ ap all_zero c.split_at.ensures.back)

pub returns-else-all : goal.returns-else-all
returns-else-all c =
    failed_on refl _ c.if-all.false refl
    ∙ band_tested c.args.image.now c.args.band c.queue_at-len.ensures.len c.if-len-gt-MAX_TASKS.false
    (search rules) c.queue_at-len.ensures.places (search rules) refl
