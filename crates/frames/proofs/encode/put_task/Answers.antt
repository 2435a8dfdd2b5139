-- `put_task` meets its contract: each arm puts its kind. Assumes nothing.
use mathlib.Core.Path.{refl, ap, ◌∙◌}
use lib.Seq.{sets}
use Rattle.std.specs.Prelude.{None}
use Rattle.rules.specs.declared.answer.Value.TheVariants as value
use Rattle.frames.specs.Private.{value_bytes}
use Rattle.frames.proofs.Encodings.{value_as, byte_put, task-put}
use Rattle.frames.proofs.encode.put_task.Goals as goal

pub returns-in-None : goal.returns-in-None
unfolding value_bytes
returns-in-None c =
    value_as (ap value.Task c.in-None.is) (byte_put (value.Task None) refl refl c.put_byte.ensures)

pub returns-in-Some : goal.returns-in-Some
returns-in-Some c =
    value_as (ap value.Task c.in-Some.is) (task-put _ _ c.put_number.ensures (c.put_bytes.ensures ∙ ap (sets _ 4) c.record_bytes.ensures))
