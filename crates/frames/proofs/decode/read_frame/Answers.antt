-- `read_frame` meets its contract: nothing for no bytes, an unknown call and a wrong length; else what the table has. Assumes nothing.
use mathlib.Core.Path.{◌∙◌}
use Rattle.frames.proofs.Decodings.{frame_empty, frame_unknown, frame_unless, frame_when}
use Rattle.frames.proofs.decode.read_frame.Goals as goal

pub returns-in_err-call : goal.returns-in_err-call
returns-in_err-call c = c.from_residual.ensures ∙ frame_empty c.args.frame.now c.in_err-call.ensures.item.3

pub returns-in_err-length : goal.returns-in_err-length
returns-in_err-length c =
    let first = c.in_ok-call.ensures.item.3 in
    c.from_residual-in_err-length.ensures ∙ frame_unknown c.args.frame.now first.0 (c.from.ensures ∙ first.1 0) c.in_err-length.ensures.lookup.3

pub returns-then-frame-length : goal.returns-then-frame-length
returns-then-frame-length c =
    let first = c.in_ok-call.ensures.item.3 in
    let long = c.in_ok-length.ensures.lookup.3 in
    frame_unless c.args.frame.now first.0 (c.from.ensures ∙ first.1 0) long.0 (long.1 0) c.if-frame-length.true

pub returns : goal.returns
returns c =
    let first = c.in_ok-call.ensures.item.3 in
    let long = c.in_ok-length.ensures.lookup.3 in
    cc (frame_when c.args.frame.now first.0 (c.from.ensures ∙ first.1 0) long.0 (long.1 0) c.if-frame-length.false)
