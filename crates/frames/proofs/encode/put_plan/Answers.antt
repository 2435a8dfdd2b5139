-- `put_plan` meets its contract: each arm puts its kind. Assumes nothing.
use mathlib.Core.Path.{refl, ap}
use Rattle.std.specs.Prelude.{None}
use Rattle.rules.specs.declared.answer.Value.TheVariants as value
use Rattle.frames.specs.Private.{value_bytes}
use Rattle.frames.proofs.Encodings.{value_as, byte_put}
use Rattle.frames.proofs.encode.put_plan.Goals as goal

pub returns-in-None : goal.returns-in-None
unfolding value_bytes
returns-in-None c =
    value_as (ap value.Plan c.in-None.is) (byte_put (value.Plan None) refl refl c.put_byte.ensures)
