-- Masks: a stored mask is never 0.
-- Assumes nothing.
use mathlib.Core.Path.{◌≡◌}
use Prim.Native.Nat.{ℕ, zero, suc}
use native.Mathlib.Omega.{arith}
use borrow.Author.Tests.{ne_eqb}
use Rattle.records.specs.Mask.{stored_mask}

pub stored_mask_nonzero : (mask : ℕ) → stored_mask mask ≡ 0 → ⊥
stored_mask_nonzero zero e = omega arith
stored_mask_nonzero (suc n) e = let same : suc n ≡ 0 = rw (ne_eqb (suc n) 0 (λ z. omega arith)) at e in omega arith
