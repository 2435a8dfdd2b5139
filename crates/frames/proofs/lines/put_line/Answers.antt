-- `put_line` meets its contract: the digits, then the newline behind them, if both have room. Assumes nothing.
use Rattle.frames.proofs.LinePuts.{line_put, line_not_put}
use Rattle.frames.proofs.lines.put_line.Goals as goal

pub returns-then-out-at : goal.returns-then-out-at
returns-then-out-at c = line_not_put c.args.answer.now _ _ c.if-out-at.true

pub returns : goal.returns
returns c = line_put c.args.answer.now _ _ c.if-out-at.false c.put_hex.ensures
