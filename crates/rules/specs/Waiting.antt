-- Demand 3 on the rules: what is claimed of every list of calls, at every point, for every slot that is Ready there. The customer's sentences
-- stand beside the fields.
use Rattle.std.specs.Prelude.{◌≡◌, ℕ, ◌≤◌, ◌<◌, length, Some}
use mathlib.Core.List.{List, ◌∷◌, ◌++◌, Sublistᴰ}
use Rattle.records.specs.declared.band.QoSClass.{QoSClass}
use Rattle.records.specs.declared.state.ThreadState.TheVariants.{Ready}
use Rattle.records.specs.Band.{band_code, slice}
use Rattle.records.specs.Lists.{Each, count}
use Rattle.rules.specs.declared.call.Call.{Call}
use Rattle.rules.specs.declared.call.Call.TheVariants.{Schedule}
use Rattle.rules.specs.declared.answer.Pick.{Pick}
use Rattle.rules.specs.State.{State, task, queue}
use Rattle.rules.specs.Step.{step, run}
use Rattle.rules.specs.Took.{Carries}
use Rattle.rules.specs.Stretch.{Event, others, ahead, stretch_of}

-- a schedule on a core below 64 picks
abbrev pub SchedulePicks : Event → Type 0
SchedulePicks e = (core : ℕ) → e.call ≡ Schedule core → core < 64 → (p : Pick) × (e.answer.pick ≡ Some p)

-- the pick, if there is one, is not from a band behind this one
abbrev pub NotBehind : QoSClass → Event → Type 0
NotBehind band e = (p : Pick) → e.answer.pick ≡ Some p → band_code p.band ≤ band_code band

-- of a stretch, for a band, X and the entries before X at its start
pub record Waiting (band : QoSClass) (x : ℕ) (entries : List ℕ) (es : List Event) : Type 0 where
  -- "every schedule on a core below 64 picks"
  pub schedules : Each SchedulePicks es
  -- "and no pick is from a later band"
  pub bands : Each (NotBehind band) es
  -- "the picks from X's band before X's own are at most p"
  pub at_most : length (others band x es) ≤ length entries
  -- "all among those p entries"
  pub among : (slot : ℕ) → 1 ≤ count slot (others band x es) → 1 ≤ count slot entries
  -- "each at most once"
  pub once : (slot : ℕ) → count slot (others band x es) ≤ 1
  -- "and in their order": they are the entries with some struck out
  pub in_order : Sublistᴰ (others band x es) entries

-- at one point: its state, and the calls that follow
pub record Point (s : State) (next : List Call) : Type 0 where
  -- "at every point of every such list, every slot's consumed time is below its band's slice"
  pub consumed : (slot : ℕ) → (task s slot).consumed_slice_us < slice (task s slot).qos
  -- "the answer carries exactly that pick, or none, and those are the picks counted"
  pub carried : (call : Call) (more : List Call) → next ≡ call ∷ more → Carries call s (step call s)
  -- "a slot X is Ready with p entries before it in its band"
  pub stands : (x : ℕ) → (task s x).state ≡ Ready → (rest : List ℕ) × (queue s (task s x).qos ≡ ahead s x ++ x ∷ rest)
  -- "Whatever other tasks and cores do in that stretch, [..]"
  pub waiting : (x : ℕ) → (task s x).state ≡ Ready → Waiting (task s x).qos x (ahead s x) (stretch_of x s next)

-- "All this is a single claim about the list": at every point, however the list is cut into calls so far and calls that follow
abbrev pub Claim : State → List Call → Type 0
Claim s calls = (past next : List Call) → past ++ next ≡ calls → Point (run past s) next
