-- `put_bytes` meets its contract: where not all bytes have a place, those that have one make the same. Assumes nothing.
use mathlib.Core.Path.{◌∙◌}
use native.Mathlib.Omega.{arith}
use Rattle.frames.proofs.Stores.{sets_room}
use Rattle.frames.proofs.bytes.put_bytes.Goals as goal

pub returns-in_default : goal.returns-in_default
returns-in_default c = sets_room c.args.out.now c.args.at 0 c.args.bytes.now (omega (arith, c.in_default.ensures))

pub returns-else-bytes-room : goal.returns-else-bytes-room
returns-else-bytes-room c =
    c.put_all-else-bytes-room.ensures ∙ sets_room c.args.out.now c.args.at _ c.args.bytes.now (omega (arith, c.in-Some.ensures))
