-- `put_switch` meets its contract: 01, previous, target and cr3, for a task and for idle. Assumes nothing.
use mathlib.Core.Path.{refl}
use Rattle.frames.proofs.Runs.{run_on, run_end}
use Rattle.frames.proofs.Encodings.{switch_put}
use Rattle.frames.proofs.encode.put_switch.Goals as goal

pub returns-in-Task : goal.returns-in-Task
returns-in-Task c =
    switch_put c.args.switch c.in-Task.is
    (run_on _ _ 1 _ _ c.put_number.ensures refl refl
    (run_on _ _ 1 _ _ c.put_number-2.ensures c.slot_number.ensures refl
    (run_on _ _ 1 _ _ c.put_number-in-Task.ensures refl refl
    (run_end _ _ 8 c.put_number-in-Task-2.ensures refl))))

pub returns-in-Idle : goal.returns-in-Idle
returns-in-Idle c =
    switch_put c.args.switch c.in-Idle.is
    (run_on _ _ 1 _ _ c.put_number.ensures refl refl
    (run_on _ _ 1 _ _ c.put_number-2.ensures c.slot_number.ensures refl
    (run_on _ _ 1 _ _ c.put_number-in-Idle.ensures refl refl
    (run_end _ _ 8 c.put_number-in-Idle-2.ensures refl))))
