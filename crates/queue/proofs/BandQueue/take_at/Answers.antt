use mathlib.Core.Path.{◌≡◌}
use native.Mathlib.Omega.{arith}
use Rattle.queue.specs.Stored.{entries}
use Rattle.queue.proofs.Taking.{taken_none, turned_none, turned_one, turned_answer, turned_rest}
use Rattle.queue.proofs.BandQueue.take_at.Goals as goal

pub returns-then-place-len : goal.returns-then-place-len
returns-then-place-len c = taken_none c.args.self.now c.args.place c.if-place-len.true

pub loop-moved-init : goal.loop-moved-init
loop-moved-init c = turned_none c.args.self.now

pub loop-moved-preserved : goal.loop-moved-preserved
loop-moved-preserved c = turned_one c.args.self.now _ _ _ c.loop-moved.invariant (omega arith)

pub returns : goal.returns
unfolding entries
returns c =
    let l = c.loop-moved in
    let all : c.args.place ≡ l._moved = omega arith in
    rw all (record {
      answer_is = turned_answer c.args.self.now _ _ _ l.invariant (omega arith) _ c.slot_of-taken.ensures;
      entries_are = turned_rest c.args.self.now _ _ _ l.invariant (omega arith);
    })
