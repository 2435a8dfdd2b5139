-- `counted` meets its contract: a step counts one entry, and the last step all of them. Assumes nothing.
use Rattle.std.proofs.Common.{List, ℕ, ◌≤◌, length, take, arith, rules, refl, sym, subst, length-take}
use Rattle.frames.specs.Private.{Counted}
use Rattle.frames.proofs.Counting.{counting_begin, counting_on, counting_past, counting_ended, counting_room}
use Rattle.frames.proofs.Readings.{queue_is}
use Rattle.frames.proofs.accept.counted.Goals as goal
use Rattle.frames.proofs.accept.counted.Goals.{then-slot-lt-MAX_TASKS, else-slot-lt-MAX_TASKS}

pub loop-slot-init : goal.loop-slot-init
loop-slot-init c = counting_begin _ _ (search rules)

pub overflow_add-counts : goal.overflow_add-counts
overflow_add-counts c =
    let len = c.queue_at-len.result.0 in
    let short : length (take len c.queue_at-len.result.1.now) ≤ 64 =
    omega (arith, length-take len c.queue_at-len.result.1.now, c.queue_at-len.ensures.len, c.requires.image_bound) in
    omega (arith, counting_room c.loop-slot.invariant c.from-slot.result c.requires.at_most short c.if-slot-lt-MAX_TASKS.true)

pub loop-slot-preserved : goal.loop-slot-preserved
loop-slot-preserved c =
    elim c.if-slot-lt-MAX_TASKS.branch [
      | then-slot-lt-MAX_TASKS w ↦ rw w.counts-is (counting_on c.loop-slot.invariant c.loop-slot-test.true (sym c.from-slot.ensures) w.if-slot-lt-MAX_TASKS.true)
      | else-slot-lt-MAX_TASKS w ↦ rw w.counts-is (counting_past c.loop-slot.invariant c.loop-slot-test.true (sym c.from-slot.ensures) w.if-slot-lt-MAX_TASKS.false)
    ]

pub returns : goal.returns
returns c =
    let queue-is = queue_is c.args.image.now c.args.band c.queue_at-len.ensures.len c.queue_at-len.ensures.places refl in
    subst (λ (es : List ℕ). Counted es c.args.counts c.loop-slot.counts) queue-is (counting_ended c.loop-slot.invariant c.loop-slot-test.false)
