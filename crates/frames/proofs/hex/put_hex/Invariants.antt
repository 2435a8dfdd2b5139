-- `put_hex` meets its contract. The loop's invariant: the digits of the bytes that are left, stored behind those that are done, give what is asked
-- for. Assumes nothing.
use Rattle.frames.proofs.Digits.{Storing}
use Rattle.frames.proofs.hex.put_hex.Given as goal

abbrev pub invariant-loop-k : goal.invariant-loop-k
invariant-loop-k l = Storing l.bytes l.initial.text l.at l.text l.k
