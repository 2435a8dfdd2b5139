use mathlib.Core.Path.{refl, ap, ◌∙◌}
use Prim.Native.Nat.{ℕ}
use native.Mathlib.Omega.{arith}
use Rattle.queue.proofs.Removal.{removing_start, removing_drop, removing_keep, removed}
use Rattle.queue.specs.Stored.{window, entries}
use Rattle.queue.proofs.BandQueue.remove.Goals as goal
use Rattle.queue.proofs.BandQueue.remove.Goals.{then-ne, else-ne}

pub loop-place-init : goal.loop-place-init
loop-place-init c = (refl, removing_start c.args.self.now c.args.slot.0)

pub loop-place-preserved : goal.loop-place-preserved
loop-place-preserved c =
    let inv = c.loop-place.invariant.1 in
    elim c.if-ne.branch [
      | then-ne w ↦ rw (w.self-is, w.kept-is) (c.loop-place.invariant.0, removing_keep c.args.self.now c.args.slot.0 _ _ _ inv (omega arith) (λ is. grind (arith, c.slot_of.ensures, w.if-ne.ensures, is)))
      | else-ne w ↦ rw (w.self-is, w.kept-is) (c.loop-place.invariant.0, removing_drop c.args.self.now c.args.slot.0 _ _ _ inv (omega arith) (grind (arith, c.slot_of.ensures, w.if-ne.ensures)))
    ]

pub returns : goal.returns
unfolding entries
returns c = ap (λ (h : ℕ). window c.loop-place.self.ring h c.loop-place.kept) c.loop-place.invariant.0 ∙ removed c.args.self.now c.args.slot.0 c.loop-place.self.ring c.loop-place.kept c.loop-place.place c.loop-place.invariant.1 (omega arith)
