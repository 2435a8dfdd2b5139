-- `BandQueue::push` meets its contract: the answers of `Pushes`; the check finds that of a full queue. Assumes nothing.
use native.Mathlib.Omega.{arith}
use Rattle.queue.specs.Stored.{entries}
use Rattle.queue.proofs.Pushes.{push_no_slot, push_answers, push_stores}
use Rattle.queue.proofs.BandQueue.push.Goals as goal

pub returns-then-number-ge-MAX_TASKS : goal.returns-then-number-ge-MAX_TASKS
returns-then-number-ge-MAX_TASKS c = push_no_slot _ _ c.if-number-ge-MAX_TASKS.true

pub returns : goal.returns
unfolding entries
returns c = record {
  answer_is = push_answers c.args.self.now c.args.slot c.if-number-ge-MAX_TASKS.false (omega arith);
  entries_are = push_stores c.args.self.now c.args.slot c.if-number-ge-MAX_TASKS.false (omega arith);
}
