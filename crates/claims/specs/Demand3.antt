-- Demand 3, whole: "on one scheduler that starts new or from an accepted image". Where a list of calls may start, the state that the rules start
-- from there, and what is claimed of every history from such a start. The sentences of the demand stand at the fields of `CodePoint` (History).
use Rattle.std.specs.Prelude.{◌≡◌, List, ℕ}
use Rattle.scheduler.specs.declared.scheduler.QoSScheduler.{QoSScheduler}
use Rattle.claims.specs.History.{Made, History, CodeClaim}
use Rattle.scheduler.specs.Scheduler.{abs}
use Rattle.rules.specs.State.{State, new_state}
use Rattle.frames.specs.ReadWrite.{ReadAs}
use Rattle.frames.specs.Image.{state_at}

-- "It starts from new or from the state read from an accepted image": what `new` ensures, or what `read_image` ensures of a scheduler that it answers
pub data Start (s : QoSScheduler) : Type 0 where
  from_new : abs s ≡ new_state → Start s
  from_image : (image : List ℕ) → ReadAs image s → Start s

-- the state that the rules start from
abbrev pub start_state : {s : QoSScheduler} → Start s → State
start_state (from_new new) = new_state
start_state (from_image image read) = state_at image

-- "Take every list of the eleven calls above, refused ones included, on one scheduler that starts new or from an accepted image, each call getting
-- the state that the last one left."
abbrev pub Demand3 : Type 0
Demand3 = (s : QoSScheduler) (start : Start s) (made : List Made) → History s made → CodeClaim (start_state start) s made
