-- `put_value` meets its contract: each arm puts its kind. Assumes nothing.
use mathlib.Core.Path.{refl}
use Rattle.rules.specs.declared.answer.Value.TheVariants as value
use Rattle.frames.specs.Private.{value_bytes}
use Rattle.frames.proofs.Runs.{run_end}
use Rattle.frames.proofs.Encodings.{flag_is, value_as, value_put, byte_put}
use Rattle.frames.proofs.encode.put_value.Goals as goal

pub returns-in-Nothing : goal.returns-in-Nothing
returns-in-Nothing c = value_as c.in-Nothing.is (value_put value.Nothing refl)

pub returns-in-Slot : goal.returns-in-Slot
unfolding value_bytes
returns-in-Slot c =
    value_as c.in-Slot.is (byte_put (value.Slot c.in-Slot.slot) c.slot_number.ensures refl c.put_byte.ensures)

pub returns-in-Core : goal.returns-in-Core
unfolding value_bytes
returns-in-Core c =
    value_as c.in-Core.is (byte_put (value.Core c.in-Core.core) c.number_or_none.ensures refl c.put_byte-in-Core.ensures)

pub returns-in-Flag : goal.returns-in-Flag
unfolding value_bytes
returns-in-Flag c =
    value_as c.in-Flag.is (byte_put (value.Flag c.in-Flag.flag) (flag_is c.in-Flag.flag c.from.ensures) refl c.put_byte-in-Flag.ensures)

pub returns-in-Micros : goal.returns-in-Micros
returns-in-Micros c =
    value_as c.in-Micros.is (value_put (value.Micros c.in-Micros.us) (run_end _ _ 8 c.put_number.ensures refl))
