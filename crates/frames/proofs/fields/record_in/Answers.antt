-- `record_in` meets its contract: each field is read where the record has it. Assumes nothing.
use Rattle.frames.proofs.RecordBytes.{record_read}
use Rattle.frames.proofs.fields.record_in.Goals as goal

pub returns : goal.returns
returns c =
    record_read c.number.ensures c.band_in.ensures c.state_in.ensures c.number-2.ensures
    c.number-3.ensures c.number-4.ensures c.number-5.ensures c.number-6.ensures
    c.number-7.ensures c.is_in_use.ensures
