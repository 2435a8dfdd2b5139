-- `read_line` meets its contract: nothing for a line that is too long or no digits; else what its bytes stand for. Assumes nothing.
use mathlib.Core.Path.{sym, ◌∙◌}
use native.Mathlib.Omega.{arith}
use Rattle.frames.proofs.Refused.{long-line}
use Rattle.frames.proofs.Tellings.{line_unless, line_when, read_back}
use Rattle.frames.proofs.lines.read_line.Goals as goal
use Rattle.frames.proofs.lines.read_line.Goals.{then-line-gt-LINE_MAX-via-then-line-gt-LINE_MAX, then-line-gt-LINE_MAX-via-else-line-gt-LINE_MAX+then-not-is_hex}

pub returns-then-line-gt-LINE_MAX : goal.returns-then-line-gt-LINE_MAX
returns-then-line-gt-LINE_MAX c =
    elim c.then-line-gt-LINE_MAX.branch [ then-line-gt-LINE_MAX-via-then-line-gt-LINE_MAX w ↦ sym (long-line c.args.line.now w.if-line-gt-LINE_MAX.true) | then-line-gt-LINE_MAX-via-else-line-gt-LINE_MAX+then-not-is_hex w ↦ line_unless c.args.line.now (sym w.is_hex.ensures ∙ w.if-not-is_hex.true) ]

pub returns : goal.returns
returns c =
    c.read_frame.ensures ∙ line_when c.args.line.now (sym c.is_hex.ensures ∙ c.if-not-is_hex.false)
    (read_back c.args.line.now _ c.from_hex.ensures (omega (arith, c.if-line-gt-LINE_MAX.false)))
