-- `put_rest` meets its contract: queues, holders and microseconds, each at its place. Assumes nothing.
use mathlib.Core.Path.{ap, ◌∙◌}
use lib.Seq.{sets}
use Rattle.scheduler.specs.Scheduler.{abs}
use Rattle.frames.specs.Bytes.{bytes_of}
use Rattle.frames.specs.Image.{holders_place, micros_place}
use Rattle.frames.proofs.image.put_rest.Goals as goal

pub returns : goal.returns
unfolding abs
returns c =
    c.put_number.ensures
    ∙ ap (λ o. sets o micros_place (bytes_of 8 c.args.state.now.system_ticks_us))
    (c.put_bytes.ensures ∙ ap (λ o. sets o holders_place c.args.state.now.current) c.put_queues.ensures)
