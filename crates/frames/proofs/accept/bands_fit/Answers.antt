-- `bands_fit` meets its contract: each band is asked in the order of picks. Assumes nothing.
use Rattle.std.proofs.Common.{rules}
use Rattle.std.proofs.lemmas.Bool.Decides.{same_from_decides}
use mathlib.Core.Logic.Iff
use Rattle.records.specs.declared.band.QoSClass.TheVariants.{Background}
use Rattle.rules.specs.State.{band_order}
use Rattle.rules.proofs.Says.{each}
use Rattle.frames.proofs.accept.bands_fit.Goals as goal

pub returns : goal.returns
returns c = same_from_decides _ _ (search rules) (each (λ _. Iff.rfl) Background band_order)
