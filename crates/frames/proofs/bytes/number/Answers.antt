-- `number` meets its contract: where not all of the bytes are there, those that are give the number. Assumes nothing.
use mathlib.Core.Path.{◌∙◌, sym, ap}
use native.Mathlib.Omega.{arith}
use lib.ListN.{length}
use lib.Seq.{take_all}
use Rattle.frames.proofs.Numbers.{number_in}
use Rattle.frames.proofs.bytes.number.Goals as goal

pub returns-in-None : goal.returns-in-None
returns-in-None c =
    let short = ap length c.behind-rest.ensures in
    number_in c.whole_number-in-None.ensures
    (c.behind-rest.ensures ∙ sym (take_all c.args.width _ (omega (arith, short, c.in-None.ensures.lookup))))
