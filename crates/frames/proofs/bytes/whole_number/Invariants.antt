-- `whole_number` meets its contract. The loop's invariant: what was read is the number that stands in the bytes so far. Assumes nothing.
use Rattle.frames.specs.Private.{IsNumber}
use Rattle.frames.proofs.bytes.whole_number.Given as goal

abbrev pub invariant-loop-byte : goal.invariant-loop-byte
invariant-loop-byte l = IsNumber 0 l.byte-index l.bytes l.read
