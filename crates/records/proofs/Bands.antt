-- The bands: reading a code gives back the band that has it, and only codes are read; bands with one code are one band; a slice is never
-- empty.
-- Assumes nothing.
use mathlib.Core.Path.{◌≡◌, refl, sym, ap, ◌∙◌}
use Prim.Native.Nat.{ℕ, ◌≤◌, ◌<◌}
use native.Mathlib.Omega.{arith}
use lib.ListN.{get_or-eq_default}
use Rattle.records.specs.declared.band.QoSClass.{QoSClass}
use Rattle.records.specs.declared.band.QoSClass.TheVariants.{UserInteractive, RealTimeIO, Background}
use Rattle.std.specs.Prelude.{Some, None}
use Rattle.records.specs.Band.{band_code, bands, coded_band, slice}

pub band_code-small : (q : QoSClass) → band_code q < 3
band_code-small UserInteractive = omega arith
band_code-small RealTimeIO = omega arith
band_code-small Background = omega arith

pub coded_band_code : (q : QoSClass) → coded_band (band_code q) ≡ Some q
coded_band_code UserInteractive = refl
coded_band_code RealTimeIO = refl
coded_band_code Background = refl

pub coded_band-past : (n : ℕ) → 3 ≤ n → coded_band n ≡ None
coded_band-past n h = get_or-eq_default bands _ h

-- bands with one code are one band
pub band_code_one : (a b : QoSClass) → band_code a ≡ band_code b → a ≡ b
band_code_one a b e = let same : Some a ≡ Some b = sym (coded_band_code a) ∙ ap coded_band e ∙ coded_band_code b in cc

-- a task that has consumed nothing has not used up its slice
pub slice_positive : (q : QoSClass) → 0 < slice q
slice_positive UserInteractive = omega arith
slice_positive RealTimeIO = omega arith
slice_positive Background = omega arith
