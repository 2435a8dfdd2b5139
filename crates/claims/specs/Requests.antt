-- Demand 3 for those who do not make calls themselves: requests, each read as a list of calls: none, one or many. What is asked is the calls of a
-- history, in order, and what is told is its answers; a request that asks for none, be it refused or only a look at the state, is no call of it.
use Rattle.std.specs.Prelude.{◌≡◌, Option, None, Some}
use mathlib.Core.List.{List, [], ◌∷◌, ◌++◌, flat_map}
use Rattle.rules.specs.declared.answer.Answer.{Answer}
use Rattle.rules.specs.declared.call.Call.{Call}
use Rattle.rules.specs.State.{State}
use Rattle.scheduler.specs.declared.scheduler.QoSScheduler.{QoSScheduler}
use Rattle.scheduler.specs.Scheduler.{abs}
use Rattle.claims.specs.History.{Made, History, left, calls_of, answers_of, CodePoint}

-- how requests of a kind are read, and what they are told; kinds that stand in one list are a protocol over their sum
pub record Protocol (A : Type 0) : Type 1 where
  -- the calls that a request asks for, in order
  pub asked : A → List Call
  -- What it is told, given the state that it finds and the answers to its calls, in their order. With no call it is told that it is refused, or, where
  -- it only looks, what it sees of that state: for such requests the state stands here, and frames and lines leave it aside.
  pub Told : A → State → List Answer → Type 0

-- the calls that requests ask for, in order
abbrev pub calls_among : {A : Type 0} → Protocol A → List A → List Call
calls_among p requests = flat_map p.asked requests

-- ---- requests of one frame

-- its call, or none
abbrev pub call_in : Option Call → List Call
call_in None = []
call_in (Some call) = call ∷ []

-- what it is told where it is refused, and what with its answer; two answers it never has
abbrev pub RefusedOr : Type 0 → (Answer → Type 0) → List Answer → Type 0
RefusedOr refused told [] = refused
RefusedOr refused told (answer ∷ []) = told answer
RefusedOr refused told (answer ∷ next ∷ more) = ⊥

-- ---- requests as a history

-- a request that finds a scheduler is the next calls made, as many as it asks for
pub record NextCalls {A : Type 0} (p : Protocol A) (s : QoSScheduler) (a : A) (made : List Made) : Type 0 where
  -- the calls made for it, and those that follow
  pub now : List Made
  pub later : List Made
  pub cut : now ++ later ≡ made
  -- they are those that it asks for
  pub calls_are : calls_of now ≡ p.asked a
  -- and it is told their answers
  pub told : p.Told a (abs s) (answers_of now)

-- each request is the history's next calls, and all of the history is some request's
unfoldable pub Follows : {A : Type 0} → Protocol A → QoSScheduler → List A → List Made → Type 0
Follows p s [] made = made ≡ []
Follows p s (a ∷ rest) made = (first : NextCalls p s a made) × Follows p (left s first.now) rest first.later

-- at a point of the requests, behind those so far: the point of the history that it is, and all that demand 3 claims there
pub record AskedPoint {A : Type 0} (p : Protocol A) (start : State) (s : QoSScheduler) (whole : List Made) (past next : List A) : Type 0 where
  pub made : List Made
  pub later : List Made
  pub cut : made ++ later ≡ whole
  -- the requests so far are the calls so far, and those that follow the calls that follow
  pub so_far : Follows p s past made
  pub to_come : Follows p (left s made) next later
  pub calls_are : calls_of made ≡ calls_among p past
  pub point : CodePoint start (calls_of made) (left s made) later

-- requests to a scheduler, as a history of it, at every point however they are cut
pub record Asks {A : Type 0} (p : Protocol A) (start : State) (s : QoSScheduler) (requests : List A) : Type 0 where
  pub made : List Made
  pub history : History s made
  pub follows : Follows p s requests made
  pub points : (past next : List A) → past ++ next ≡ requests → AskedPoint p start s made past next
