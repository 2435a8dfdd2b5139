-- `is_ended` meets its contract. Assumes nothing.
use borrow.Author.Tests.{lt-ltb, le-ltb}
use Rattle.frames.proofs.Holding.{some_held, some_length}
use Rattle.frames.proofs.held.Held.is_ended.Goals as goal

pub returns-then-self-gt0 : goal.returns-then-self-gt0
returns-then-self-gt0 c =
    let held = some_held c.args.self.now in
    simp (c.if-is_closed.false, c.if-last.true, held, lt-ltb 0 c.args.self.now.len c.if-self-gt0.true)

pub returns-else-self-gt0 : goal.returns-else-self-gt0
returns-else-self-gt0 c =
    let held = some_held c.args.self.now in
    simp (c.if-is_closed.false, c.if-last.true, held, le-ltb 0 c.args.self.now.len c.if-self-gt0.false, some_length)
