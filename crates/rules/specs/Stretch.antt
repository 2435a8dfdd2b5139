-- X's stretch, from demand 3 and document 01's paragraph on its list: the list call by call, which calls end the stretch, its picks, and the
-- entries before X. Everything here computes.
use Rattle.std.specs.Prelude.{Bool, false, cond, not, ◌&&◌, List, [], ◌∷◌, ℕ, ltb, eqb, Option, None, Some}
use Rattle.rules.specs.declared.answer.Pick.{Pick}
use Rattle.records.specs.declared.band.QoSClass.{QoSClass}
use Rattle.records.specs.Band.{band_code}
use Rattle.records.specs.Mask.{permits}
use Rattle.rules.specs.declared.call.Call.{Call}
use Rattle.rules.specs.declared.call.Call.TheVariants.{Create, Affinity, Terminate, Block, Wake, Enqueue, Schedule, Tick, Yield, Handoff, Plan, CanRunOnCore, TaskIndexForTid, Task, CurrentTaskOnCpu, SystemTicksUs, Holder}
use Rattle.rules.specs.declared.answer.Answer.{Answer}
use Rattle.rules.specs.State.{State, task, queue}
use Rattle.rules.specs.Step.{step}

-- ---- the list, call by call

-- one call of a list: the call, the state that it found, and what it answered
pub record Event : Type 0 where
  pub call : Call
  pub found : State
  pub answer : Answer

abbrev pub event_of : Call → State → Event
event_of call s = record { call = call; found = s; answer = (step call s).answer }

unfoldable pub events : List Call → State → List Event
events [] s = []
events (call ∷ calls) s = event_of call s ∷ events calls (step call s).state

-- ---- X's stretch

-- what a call has to do with those who wait
pub data Concern : Type 0 where
  -- it "blocks or terminates" the slot, or "sets its mask"
  changes : ℕ → Concern
  -- it "names a core": its argument, whether or not the call is refused
  names : ℕ → Concern
  -- neither; a query is none of the eleven calls
  nothing : Concern

abbrev pub concern : Call → Concern
concern (Create tid band context cr3 rsp0) = nothing
concern (Affinity slot mask) = changes slot.0
concern (Terminate slot) = changes slot.0
concern (Block slot) = changes slot.0
concern (Wake slot) = nothing
concern (Enqueue slot) = nothing
concern (Schedule core) = names core
concern (Tick core elapsed) = names core
concern (Yield core) = names core
concern (Handoff core) = names core
concern (Plan core elapsed) = names core
concern (CanRunOnCore slot core) = nothing
concern (TaskIndexForTid tid) = nothing
concern (Task slot) = nothing
concern (CurrentTaskOnCpu core) = nothing
concern SystemTicksUs = nothing
concern (Holder slot) = nothing

-- the call breaks X's conditions: it "blocks or terminates X, sets its mask or names a core below 64 that its mask forbids"
abbrev pub breaks_for : ℕ → ℕ → Concern → Bool
breaks_for x mask (changes slot) = eqb slot x
breaks_for x mask (names core) = ltb core 64 && not (permits mask core)
breaks_for x mask nothing = false

abbrev pub breaks : ℕ → Event → Bool
breaks x e = breaks_for x (task e.found x).cpu_affinity (concern e.call)

abbrev pub is_pick : ℕ → Option Pick → Bool
is_pick x None = false
is_pick x (Some p) = eqb p.slot.0 x

-- the call picks X
abbrev pub picks : ℕ → Event → Bool
picks x e = is_pick x e.answer.pick

-- "X's stretch ends with the call that picks X, that call included, or before the first call that breaks its conditions, or else with the
-- list."
unfoldable pub stretch : (Event → Bool) → (Event → Bool) → List Event → List Event
stretch breaking picking [] = []
stretch breaking picking (e ∷ es) = cond (breaking e) [] (e ∷ cond (picking e) [] (stretch breaking picking es))

-- X's stretch from a point on: the state there, and the calls that follow
abbrev pub stretch_of : ℕ → State → List Call → List Event
stretch_of x s next = stretch (breaks x) (picks x) (events next s)

-- ---- its picks

-- "the picks from X's band before X's own": in a stretch, those of the band that are not X
abbrev pub others_in : QoSClass → ℕ → Option Pick → List ℕ → List ℕ
others_in band x None later = later
others_in band x (Some p) later = cond (eqb (band_code p.band) (band_code band) && not (eqb p.slot.0 x)) (p.slot.0 ∷ later) later

unfoldable pub others : QoSClass → ℕ → List Event → List ℕ
others band x [] = []
others band x (e ∷ es) = others_in band x e.answer.pick (others band x es)

-- "p entries before it in its band": the entries of a queue before X
unfoldable pub before : ℕ → List ℕ → List ℕ
before x [] = []
before x (e ∷ es) = cond (eqb e x) [] (e ∷ before x es)

-- the entries before X in its band's queue
abbrev pub ahead : State → ℕ → List ℕ
ahead s x = before x (queue s (task s x).qos)
