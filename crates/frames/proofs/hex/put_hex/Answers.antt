-- One more byte's digits, stored behind the others, keep the invariant, and at the end no byte is left. Assumes nothing.
use native.Mathlib.Omega.{arith}
use Rattle.frames.proofs.Digits.{storing_on, storing-ended}
use Rattle.frames.proofs.hex.put_hex.Goals as goal

pub loop-k-preserved : goal.loop-k-preserved
loop-k-preserved c = storing_on c.loop-k.invariant (omega arith) c.digit.ensures c.digit-in-loop-k.ensures

pub returns : goal.returns
returns c = storing-ended c.loop-k.invariant c.loop-k-test.false
