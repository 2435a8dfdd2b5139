-- `put_byte` meets its contract. Assumes nothing.
use mathlib.Core.Path.{refl, sym}
use mathlib.Core.List.{[], ◌∷◌}
use Rattle.frames.proofs.Runs.{run_end}
use Rattle.frames.proofs.Sizes.{length-written}
use Rattle.frames.proofs.encode.put_byte.Goals as goal

pub returns : goal.returns
returns c =
    record {
      buffer_is = run_end _ _ 1 c.put_number.ensures refl;
      length_is = sym (length-written (1 ∷ []) (c.args.number ∷ []) refl);
    }
