-- The answers of `first_permitted`, from the laws of `OnBands`. Assumes nothing.
use Rattle.std.proofs.Common.{◌<◌, arith, below_more}
use Rattle.scheduler.proofs.OnBands.{entry_there, none_waits, entry_low, entry_first, entry_fails}
use Rattle.scheduler.proofs.scheduler.QoSScheduler.first_permitted.Goals as goal
use Rattle.scheduler.proofs.scheduler.QoSScheduler.first_permitted.Goals.{in_default-via-in-None-1, in_default-via-in-Some+else-mask_permits}

pub offset_bounds-self-slot : goal.offset_bounds-self-slot
offset_bounds-self-slot c =
    let low : c.in-Some.slot.0 < 64 = entry_low c.args.self.now c.args.core c.args.band c.code.ensures.is _ _ _ c.in-Some.ensures in
    omega (arith, low)

pub bounds-self-slot : goal.bounds-self-slot
bounds-self-slot c = entry_low c.args.self.now c.args.core c.args.band c.code.ensures.is _ _ _ c.in-Some.ensures

pub returns-in-loop-place : goal.returns-in-loop-place
returns-in-loop-place c =
    entry_first c.args.self.now c.args.core c.args.band c.code.ensures.is _ _ _ c.in-Some.ensures _
    c.mask_permits.ensures c.loop-place.invariant c.if-mask_permits.true

pub loop-place-preserved : goal.loop-place-preserved
loop-place-preserved c = below_more _ _ c.loop-place.invariant (elim c.in_default.branch [
  | in_default-via-in-None-1 w ↦ let there = entry_there _ _ c.entry_at.ensures (omega (arith, c.len-place-end.ensures)) in cc
  | in_default-via-in-Some+else-mask_permits w ↦
      entry_fails c.args.self.now c.args.core c.args.band c.code.ensures.is _ _ _ w.in-Some.ensures _ w.mask_permits.ensures w.if-mask_permits.false
])

pub returns : goal.returns
returns c =
    none_waits c.args.self.now c.args.core c.args.band c.code.ensures.is _ _ c.loop-place.invariant
    c.len-place-end.ensures (omega arith) (omega arith)
