-- `put_number` meets its contract: the last bytes of the number are stored. Assumes nothing.
use mathlib.Core.Path.{ap, ◌∙◌}
use lib.Seq.{sets}
use Rattle.frames.proofs.Numbers.{last_bytes_stored}
use Rattle.frames.proofs.bytes.put_number.Goals as goal

pub returns : goal.returns
returns c =
    let a = c.args in
    c.put_bytes.ensures ∙ ap (sets a.bytes.now a.at) (last_bytes_stored a.width a.number c.requires c.to_be_bytes.ensures)
