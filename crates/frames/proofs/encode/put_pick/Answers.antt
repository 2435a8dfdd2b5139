-- `put_pick` meets its contract: two numbers, for a pick and for none. Assumes nothing.
use mathlib.Core.Path.{refl, ◌∙◌}
use Rattle.frames.proofs.Runs.{run_on, run_end}
use Rattle.frames.proofs.Encodings.{pick_as}
use Rattle.frames.proofs.encode.put_pick.Goals as goal

pub returns-in-None : goal.returns-in-None
returns-in-None c =
    pick_as _ c.in-None.is
    (run_on _ _ 1 _ _ c.put_number.ensures refl refl
    (run_end _ _ 1 c.put_number-in-None.ensures refl))

pub returns-in-Some : goal.returns-in-Some
returns-in-Some c =
    pick_as _ c.in-Some.is
    (run_on _ _ 1 _ _ c.put_number-in-Some.ensures refl refl
    (run_end _ _ 1 c.put_number-in-Some-2.ensures (c.from.ensures ∙ c.code.ensures.is)))
