-- `answer_block` meets its contract, and ends: whenever the buffer is full, some of the block was used, since it has room for any one answer.
-- Assumes nothing.
use Rattle.std.proofs.Common.{◌-◌, length}
use Rattle.calls.proofs.Feeding.{BlockGoing}
use Rattle.calls.proofs.answer_block.Given as goal

abbrev pub invariant-loop-stream : goal.invariant-loop-stream
invariant-loop-stream g l = BlockGoing l.last l.initial.stream l.block l.stream l.used

abbrev pub decreases-loop-stream : goal.decreases-loop-stream
decreases-loop-stream g l = length l.block - l.used
