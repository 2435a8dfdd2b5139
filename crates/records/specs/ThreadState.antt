-- Document 01, "Task record, queues, holders": the codes of the states.
use Rattle.std.specs.Prelude.{ℕ, Bool, List, [], ◌∷◌, eqb, get_or, Option, Some, None}
use Rattle.records.specs.declared.state.ThreadState.{ThreadState}
use Rattle.records.specs.declared.state.ThreadState.TheVariants.{Ready, Running, Blocked, Terminated}

-- "state 1 (0 Ready, 1 Running, 2 Blocked, 3 Terminated)"
abbrev pub state_code : ThreadState → ℕ
state_code Ready = 0
state_code Running = 1
state_code Blocked = 2
state_code Terminated = 3

-- the same, read from a byte
abbrev pub states : List (Option ThreadState)
states = Some Ready ∷ Some Running ∷ Some Blocked ∷ Some Terminated ∷ []

abbrev pub coded_state : ℕ → Option ThreadState
coded_state n = get_or states n None

-- the two are one state: they have one code
abbrev pub is_state : ThreadState → ThreadState → Bool
is_state s t = eqb (state_code s) (state_code t)
