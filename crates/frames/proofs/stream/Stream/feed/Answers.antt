-- `feed` meets its contract: the loop begins, each turn answers a line, and where it stops all that is asked for is done. Assumes nothing.
use mathlib.Core.Path.{sym, ◌∙◌}
use borrow.Author.Rules.{rules}
use Rattle.frames.proofs.Cuts.{line-within}
use Rattle.frames.proofs.Progress.{less, stops_open, stops_full, turn}
use Rattle.frames.proofs.Tellings.{makes_refusal, makes_reply}
use Rattle.frames.proofs.stream.Stream.feed.Goals as goal

-- the line is not at its end
pub returns-then-not-is_ended : goal.returns-then-not-is_ended
returns-then-not-is_ended c =
    stops_open c.loop-held.invariant c.next_line-line.ensures (sym c.is_ended.ensures ∙ c.if-not-is_ended.true)
    c.stopped.ensures

-- ---- a line that is no frame

pub returns-in_default-put_line : goal.returns-in_default-put_line
returns-in_default-put_line c =
    stops_full c.loop-held.invariant c.next_line-line.ensures (sym c.is_ended.ensures ∙ c.if-not-is_ended.false)
    (makes_refusal (sym c.call_with.ensures ∙ c.in_default.is)) c.in_default-put_line.ensures c.stopped-in_default-put_line.ensures

pub past_newline-used-requires : goal.past_newline-used-requires
past_newline-used-requires c =
    let within = line-within c.args.block.now c.loop-held.used c.next_line-line.ensures in
    search rules

pub loop-held-smaller-in_default : goal.loop-held-smaller-in_default
loop-held-smaller-in_default c =
    less c.loop-held.invariant c.next_line-line.ensures (sym c.is_ended.ensures ∙ c.if-not-is_ended.false) _
    c.past_newline-used.ensures c.new-held.ensures

pub loop-held-preserved-in_default : goal.loop-held-preserved-in_default
loop-held-preserved-in_default c =
    turn c.loop-held.invariant c.next_line-line.ensures (sym c.is_ended.ensures ∙ c.if-not-is_ended.false)
    (makes_refusal (sym c.call_with.ensures ∙ c.in_default.is)) c.past_newline-used.ensures c.in-Some-put_line.ensures c.new-held.ensures

-- ---- a call

pub returns-in_default-put_answer : goal.returns-in_default-put_answer
returns-in_default-put_answer c =
    stops_full c.loop-held.invariant c.next_line-line.ensures (sym c.is_ended.ensures ∙ c.if-not-is_ended.false)
    (makes_reply (sym c.call_with.ensures ∙ c.in-Some.is) c.apply-reply.ensures) c.in_default-put_answer.ensures c.stopped-in_default-put_answer.ensures

pub past_newline-used-requires-in-loop-held : goal.past_newline-used-requires-in-loop-held
past_newline-used-requires-in-loop-held c =
    let within = line-within c.args.block.now c.loop-held.used c.next_line-line.ensures in
    search rules

pub loop-held-smaller : goal.loop-held-smaller
loop-held-smaller c =
    less c.loop-held.invariant c.next_line-line.ensures (sym c.is_ended.ensures ∙ c.if-not-is_ended.false) _
    c.past_newline-used-in-loop-held.ensures c.new-held-in-loop-held.ensures

pub loop-held-preserved : goal.loop-held-preserved
loop-held-preserved c =
    turn c.loop-held.invariant c.next_line-line.ensures (sym c.is_ended.ensures ∙ c.if-not-is_ended.false)
    (makes_reply (sym c.call_with.ensures ∙ c.in-Some.is) c.apply-reply.ensures) c.past_newline-used-in-loop-held.ensures
    c.in-Some-put_answer.ensures c.new-held-in-loop-held.ensures
