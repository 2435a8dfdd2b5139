-- `band_in` meets its contract: the band that the code reads as, or the empty record's. Assumes nothing.
use Rattle.frames.proofs.RecordBytes.{band_read}
use Rattle.frames.proofs.fields.band_in.Goals as goal

pub returns : goal.returns
returns c = band_read c.number.ensures c.try_from.ensures c.unwrap_or.ensures
