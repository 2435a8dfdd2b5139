use Rattle.std.proofs.Common.{rules}
use mathlib.Core.Bool.{false≢true}
use mathlib.Core.Path.{sym, ◌∙◌}
use borrow.Author.Tests.{not-true, not-false}
use Rattle.frames.proofs.Streams.{feeds_on}
use Rattle.calls.proofs.Feeding.{block_begin, within_after, turn, done}
use Rattle.calls.proofs.answer_block.Goals as goal
use Rattle.calls.proofs.answer_block.Goals.{then-not-fed-via-then-not-fed, then-not-fed-via-else-not-fed+then-not-is_written}

pub loop-stream-init : goal.loop-stream-init
loop-stream-init g c = block_begin _ _ _

pub overflow_add-used : goal.overflow_add-used
overflow_add-used g c =
    let within = within_after c.loop-stream.invariant c.feed-fed.ensures in
    search rules

pub returns-then-not-fed : goal.returns-then-not-fed
returns-then-not-fed g c =
    done c.loop-stream.invariant c.feed-fed.ensures
    (λ written. elim c.then-not-fed.branch [
      | then-not-fed-via-then-not-fed w ↦ not-true _ w.if-not-fed.true
      | then-not-fed-via-else-not-fed+then-not-is_written w ↦ absurd (false≢true (sym w.if-not-is_written.true ∙ written))
    ])

pub loop-stream-smaller : goal.loop-stream-smaller
loop-stream-smaller g c =
    let within = within_after c.loop-stream.invariant c.feed-fed.ensures in
    let on = feeds_on c.feed-fed.ensures (search rules) (not-false _ c.if-not-fed.false) in
    search rules

pub loop-stream-preserved : goal.loop-stream-preserved
loop-stream-preserved g c = turn c.loop-stream.invariant c.feed-fed.ensures
