-- One stretch of demand 3, computed. Slots 0, 1 and 2 of band 0 wait in that order, and slot 3 of band 2; X is slot 2, so p is 2. Two cores
-- pick 0 and 1, by a schedule and a tick; a create, an enqueue, a refused wake, a query and a tick on core 64 come in between; then X is
-- picked, and what follows is no longer in the stretch. Assumes nothing.
use mathlib.Core.Path.{◌≡◌, refl}
use mathlib.Core.List.{List, [], ◌∷◌, ◌++◌, map}
use Rattle.records.specs.declared.band.QoSClass.TheVariants.{UserInteractive, Background}
use Rattle.queue.specs.Entries.{pushed, entry_at, taken_at}
use Rattle.rules.specs.declared.call.Call.{Call}
use Rattle.rules.specs.declared.call.Call.TheVariants.{Wake, Enqueue, Block, Schedule, Tick, SystemTicksUs}
use Rattle.records.specs.Lists.{first_place}
use Rattle.rules.specs.State.{State, new_state}
use Rattle.rules.specs.Picking.{choice, rule_p, schedule}
use Rattle.rules.specs.Waking.{create, wake, enqueue, block}
use Rattle.rules.specs.Ticking.{ticked, tick}
use Rattle.rules.specs.Step.{run}
use Rattle.rules.proofs.KCases.{slot, make}
use Rattle.rules.specs.Stretch.{Event, events, stretch, stretch_of, others, before, ahead}

-- X's point: the calls up to it, and the state there
abbrev past : List Call
past =
    make UserInteractive ∷ make UserInteractive ∷ make UserInteractive ∷ make Background ∷
    Enqueue (slot 0) ∷ Enqueue (slot 1) ∷ Enqueue (slot 2) ∷ Enqueue (slot 3) ∷ []

abbrev here : State
here = run past new_state

-- the calls of the stretch, and those behind it
abbrev within : List Call
within = Schedule 6 ∷ make UserInteractive ∷ Enqueue (slot 4) ∷ Wake (slot 3) ∷ Tick 9 100 ∷ SystemTicksUs ∷ Tick 64 1 ∷ Schedule 63 ∷ []

abbrev next : List Call
next = within ++ Schedule 1 ∷ Block (slot 2) ∷ []

pub two_before_X : ahead here 2 ≡ 0 ∷ 1 ∷ []
unfolding first_place pushed create enqueue run before
two_before_X = refl

pub the_stretch : map (λ (e : Event). e.call) (stretch_of 2 here next) ≡ within
unfolding first_place pushed entry_at taken_at choice rule_p schedule create wake enqueue block ticked tick run events stretch
the_stretch = refl

pub two_picked_before_X : others UserInteractive 2 (stretch_of 2 here next) ≡ 0 ∷ 1 ∷ []
unfolding first_place pushed entry_at taken_at choice rule_p schedule create wake enqueue block ticked tick run events stretch others
two_picked_before_X = refl
