-- Two more digits, read as a byte behind those that are stored, keep the invariant, and at the end no two are left. Assumes nothing.
use native.Mathlib.Omega.{arith}
use Rattle.frames.proofs.Digits.{reading_on, reading_ended}
use Rattle.frames.proofs.hex.from_hex.Goals as goal

pub loop-k-preserved : goal.loop-k-preserved
loop-k-preserved c = reading_on c.loop-k.invariant (omega arith) c.digit_value.ensures c.digit_value-in-loop-k.ensures

pub returns : goal.returns
returns c = reading_ended c.loop-k.invariant c.loop-k-test.false
