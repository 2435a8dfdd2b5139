-- `update_image` meets its contract: two records over those of their slots, and behind the records all of the rest. Assumes nothing.
use mathlib.Core.Path.{ap, ◌∙◌}
use Rattle.rules.proofs.Accepts.{accepts_sound}
use Rattle.rules.specs.Paper.{slot_number}
use Rattle.scheduler.specs.Scheduler.{abs}
use Rattle.frames.specs.Private.{with_rest, put_slot}
use Rattle.frames.proofs.Writings.{image_over}
use Rattle.frames.proofs.image.update_image.Goals as goal

pub returns : goal.returns
unfolding abs
returns c =
    let s = c.args.state.now in
    c.put_rest.ensures
    ∙ ap (λ o. with_rest (abs s) o) (c.put_slot-2.ensures ∙ ap (put_slot s.tasks (slot_number c.args.answered)) c.put_slot.ensures)
    ∙ image_over (abs s) (accepts_sound (abs s) s.accepted) c.args.image.now _ _ c.requires.accepted_image c.requires.same_but
