-- One more byte, read behind those so far, keeps the invariant. Assumes nothing.
use native.Mathlib.Omega.{arith}
use Rattle.frames.proofs.Numbers.{number_begin, number_on}
use Rattle.frames.proofs.bytes.whole_number.Goals as goal

pub loop-byte-init : goal.loop-byte-init
loop-byte-init c = number_begin c.args.bytes.now

pub loop-byte-preserved : goal.loop-byte-preserved
loop-byte-preserved c = number_on c.loop-byte.invariant c.loop-byte-test.true c.from.ensures (omega (arith, c.type_inv.bytes c.loop-byte.byte-index))
