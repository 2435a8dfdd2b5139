-- What a call makes of a state: an answer and a state. Document 01, "Picking": "Each answer also carries the pick made [..], or none"; the
-- table of refusals: "A refusal changes no state"; "Call frames": "Refused: no value."
use Rattle.std.specs.Prelude.{Option, None, Result, Ok, Err}
use Rattle.rules.specs.declared.answer.Pick.{Pick}
use Rattle.records.specs.declared.ids.Slot.{Slot}
use Rattle.records.specs.declared.error.SchedError.{SchedError}
use Rattle.rules.specs.declared.answer.Answer.{Answer}
use Rattle.rules.specs.declared.answer.Value.{Value}
use Rattle.rules.specs.declared.answer.Value.TheVariants as value
use Rattle.rules.specs.State.{State}

pub record Outcome : Type 0 where
  pub answer : Answer
  pub state : State

-- done, with the pick made and a value
abbrev pub answered : Option Pick → Value → Answer
answered p v = record { status = Ok tt; pick = p; value = v }

-- done, and nobody was picked
abbrev pub done : Value → State → Outcome
done v s = record { answer = answered None v; state = s }

-- refused: no pick and no value
abbrev pub refusal : SchedError → Answer
refusal e = record { status = Err e; pick = None; value = value.Nothing }

-- and the state as it was
abbrev pub refused : SchedError → State → Outcome
refused e s = record { answer = refusal e; state = s }

-- a refusal ends the call; otherwise it goes on from the state reached
abbrev pub go_on : Result Unit SchedError → Outcome → (State → Outcome) → Outcome
go_on (Ok _) o next = next o.state
go_on (Err e) o next = o

abbrev pub and_then : Outcome → (State → Outcome) → Outcome
and_then o next = go_on o.answer.status o next

-- who is to run on a core, the pick that led there, if any, and the state then
pub record Chosen : Type 0 where
  pub next : Option Slot
  pub pick : Option Pick
  pub state : State

-- a choice, answered with a value
abbrev pub chosen_as : Value → Chosen → Outcome
chosen_as v c = record { answer = answered c.pick v; state = c.state }
