-- `slots_fit` meets its contract: the counts of each queue, and a law for each way out. Assumes nothing.
use Rattle.std.proofs.Common.{sym}
use mathlib.Core.Bool.{and-false}
use Rattle.rules.specs.Accepted.{stands_once}
use Rattle.frames.specs.Image.{state_at}
use Rattle.frames.specs.AcceptedImage.{slot_fits}
use Rattle.frames.proofs.Accepting.{slot_fits_lem, once_read}
use Rattle.frames.proofs.Passing.{passing_begin, passing_on, passing_failed}
use Rattle.frames.proofs.Counting.{CountsAre, first_most, second_most, third_most, counts_are, stands_once_lem}
use Rattle.frames.proofs.accept.slots_fit.Goals as goal
use Rattle.frames.proofs.accept.slots_fit.Goals.{After-counted-counts}
use Rattle.frames.proofs.accept.slots_fit.Goals.{then-not-record_fits-via-then-not-record_fits, then-not-record_fits-via-else-not-record_fits+then-not-stands_once}

pub counted-first-requires-clause-at_most : goal.counted-first-requires-clause-at_most
counted-first-requires-clause-at_most c = first_most c.args.image.now c.requires

pub counted-second-requires-clause-at_most : goal.counted-second-requires-clause-at_most
counted-second-requires-clause-at_most c = second_most c.args.image.now c.requires c.counted-first.ensures

pub counted-counts-requires-clause-at_most : goal.counted-counts-requires-clause-at_most
counted-counts-requires-clause-at_most c = third_most c.args.image.now c.requires c.counted-first.ensures c.counted-second.ensures

counts : (c : After-counted-counts) → CountsAre (state_at c.args.image.now) c.counted-counts.result
counts c = counts_are c.args.image.now c.requires c.counted-first.ensures c.counted-second.ensures c.counted-counts.ensures

pub loop-slot-init : goal.loop-slot-init
loop-slot-init c = (passing_begin _, passing_begin _)

pub returns-then-not-record_fits : goal.returns-then-not-record_fits
returns-then-not-record_fits c =
    let image = c.args.image.now in
    let low = c.loop-slot-test.true in
    elim c.then-not-record_fits.branch [
      | then-not-record_fits-via-then-not-record_fits w ↦ sym (rw (passing_failed (slot_fits image) low
          (slot_fits_lem image c.loop-slot.slot low c.record_at-record.ensures c.record_fits.ensures) w.if-not-record_fits.true))
      | then-not-record_fits-via-else-not-record_fits+then-not-stands_once w ↦
          let right = counts (goal.at.returns-then-not-record_fits c).After-counted-counts in
          sym (rw (
            passing_failed (stands_once (state_at image)) low
                (stands_once_lem right low (once_read image c.loop-slot.slot low c.record_at-record.ensures _ w.stands_once.ensures)) w.if-not-stands_once.true,
            and-false,
          ))
    ]

pub loop-slot-preserved : goal.loop-slot-preserved
loop-slot-preserved c =
    let image = c.args.image.now in
    let low = c.loop-slot-test.true in
    let right = counts (goal.at.loop-slot-preserved c).After-counted-counts in (
      passing_on c.loop-slot.invariant.0 low
          (slot_fits_lem image c.loop-slot.slot low c.record_at-record.ensures c.record_fits.ensures) c.if-not-record_fits.false,
      passing_on c.loop-slot.invariant.1 low
          (stands_once_lem right low (once_read image c.loop-slot.slot low c.record_at-record.ensures _ c.stands_once.ensures)) c.if-not-stands_once.false,
    )
