-- `state_in` meets its contract: the state that the code reads as, or the empty record's. Assumes nothing.
use Rattle.frames.proofs.RecordBytes.{state_read}
use Rattle.frames.proofs.fields.state_in.Goals as goal

pub returns : goal.returns
returns c = state_read c.number.ensures c.try_from.ensures c.unwrap_or.ensures
