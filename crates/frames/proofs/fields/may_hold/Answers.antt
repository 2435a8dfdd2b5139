-- `may_hold` meets its contract: the budget that is read is the record's. Assumes nothing.
use Rattle.std.proofs.Common.{sym, ◌∙◌}
use Rattle.frames.specs.Image.{record_in}
use Rattle.frames.proofs.fields.may_hold.Goals as goal

pub returns-then-is_in_use : goal.returns-then-is_in_use
unfolding record_in
returns-then-is_in_use c = rw (sym c.is_in_use.ensures ∙ c.if-is_in_use.true, c.number.ensures.is, c.slice_in.ensures)
