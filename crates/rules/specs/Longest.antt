-- What a reader has to believe of X's stretch: which calls break X's conditions, that the stretch is as long as can be, and which calls are
-- queries. A shorter stretch would be a weaker claim; proofs/Stretches.antt shows that it is not shorter.
use Rattle.std.specs.Prelude.{◌≡◌, Bool, true, false, List, [], ◌∷◌, ◌++◌, ℕ, ◌<◌}
use Rattle.records.specs.declared.ids.Slot.{Slot}
use Rattle.records.specs.declared.ids.Tid.{Tid}
use Rattle.records.specs.Mask.{permits}
use Rattle.rules.specs.declared.call.Call.{Call}
use Rattle.rules.specs.declared.call.Call.TheVariants.{Affinity, Terminate, Block, Schedule, Tick, Yield, Handoff, Plan, CanRunOnCore, TaskIndexForTid, Task, CurrentTaskOnCpu, SystemTicksUs, Holder}
use Rattle.records.specs.Lists.{Each, but_last}
use Rattle.rules.specs.State.{task}
use Rattle.rules.specs.Stretch.{Event}

-- "names a core": the five calls that have one
pub data Names (c : ℕ) : Call → Type 0 where
  by_schedule : Names c (Schedule c)
  by_tick : (elapsed : ℕ) → Names c (Tick c elapsed)
  by_yield : Names c (Yield c)
  by_handoff : Names c (Handoff c)
  by_plan : (elapsed : ℕ) → Names c (Plan c elapsed)

-- "as long as no call [..]": the ways in which a call breaks X's conditions, and there is no other
pub data Breaking (x : ℕ) (e : Event) : Type 0 where
  -- "blocks"
  blocks : e.call ≡ Block (record { 0 = x }) → Breaking x e
  -- "or terminates X"
  terminates : e.call ≡ Terminate (record { 0 = x }) → Breaking x e
  -- "sets its mask"
  sets_mask : (mask : ℕ) → e.call ≡ Affinity (record { 0 = x }) mask → Breaking x e
  -- "or names a core below 64 that its mask forbids", the mask read where the call finds it
  names_forbidden : (c : ℕ) → Names c e.call → c < 64 → permits (task e.found x).cpu_affinity c ≡ false → Breaking x e

-- why a part of a list ends where it does: "X's stretch ends [..]"
pub data Ended (breaking picking : Event → Bool) (part rest : List Event) : Type 0 where
  -- "with the call that picks X, that call included"
  with_pick : (front : List Event) (e : Event) → part ≡ front ++ (e ∷ []) → picking e ≡ true → Ended breaking picking part rest
  -- "or before the first call that breaks its conditions"
  before_break : (e : Event) (more : List Event) → rest ≡ e ∷ more → breaking e ≡ true → Ended breaking picking part rest
  -- "or else with the list"
  with_list : rest ≡ [] → Ended breaking picking part rest

-- the part of a list that "runs up to X's next pick, as long as no call" breaks it
pub record Longest (breaking picking : Event → Bool) (es part : List Event) : Type 0 where
  -- it starts where the list does and leaves nothing out
  pub rest : List Event
  pub whole : es ≡ part ++ rest
  -- it goes on until it has to end
  pub ended : Ended breaking picking part rest
  -- none of its calls breaks, and only its last may pick
  pub unbroken : Each (λ (e : Event). breaking e ≡ false) part
  pub unpicked : Each (λ (e : Event). picking e ≡ false) (but_last part)

-- the queries 0b to 10, which are none of "the eleven calls"
pub data Query : Call → Type 0 where
  can_run : (slot : Slot) (c : ℕ) → Query (CanRunOnCore slot c)
  index_for : (tid : Tid) → Query (TaskIndexForTid tid)
  record_of : (slot : Slot) → Query (Task slot)
  current : (c : ℕ) → Query (CurrentTaskOnCpu c)
  microseconds : Query SystemTicksUs
  held_by : (slot : Slot) → Query (Holder slot)
