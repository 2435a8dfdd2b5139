-- `from_hex` meets its contract. The loop's invariant: the bytes of the digits that are left, stored behind those that are done, give what is asked
-- for. Assumes nothing.
use Rattle.frames.proofs.Digits.{ReadingDigits}
use Rattle.frames.proofs.hex.from_hex.Given as goal

abbrev pub invariant-loop-k : goal.invariant-loop-k
invariant-loop-k l = ReadingDigits l.line l.initial.bytes l.bytes l.k
