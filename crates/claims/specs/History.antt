-- Demands 2 and 3 on the code: histories of calls that keep their contract, and what is claimed of each. The contract of `apply` and of the
-- methods of the eleven calls is `Meets`, and that of block and tick on a lent state is `MeetsLent`, so whatever calls they are given, in whatever
-- order, make a history.
use Rattle.std.specs.Prelude.{◌≡◌, List, [], ◌∷◌, ◌++◌, map, ℕ, ◌<◌}
use Rattle.records.specs.declared.state.ThreadState.TheVariants.{Ready}
use Rattle.records.specs.Band.{slice}
use Rattle.rules.specs.declared.answer.Answer.{Answer}
use Rattle.rules.specs.declared.call.Call.{Call}
use Rattle.scheduler.specs.declared.scheduler.QoSScheduler.{QoSScheduler}
use Rattle.scheduler.specs.declared.scheduler.Reply.{Reply}
use Rattle.rules.specs.State.{State, task, queue}
use Rattle.rules.specs.Outcome.{Outcome}
use Rattle.rules.specs.Step.{step, run}
use Rattle.rules.specs.Took.{Carries}
use Rattle.rules.specs.Stretch.{Event, breaks, picks, stretch, ahead}
use Rattle.rules.specs.Waiting.{Waiting}
use Rattle.rules.specs.Accepted.{Accepted}
use Rattle.scheduler.specs.Scheduler.{abs, Meets, MeetsLent}

-- one call, and what the code gave back
pub record Made : Type 0 where
  pub call : Call
  pub reply : Reply

-- "each call gets the state that the one before returned or left": each keeps its contract there
unfoldable pub History : QoSScheduler → List Made → Type 0
History s [] = Unit
History s (a ∷ rest) = Meets a.call s a.reply × History a.reply.state rest

-- a call that was made by value, with its reply, or on a lent state, with its answer and what it left behind the reference
pub data MadeEither : Type 0 where
  by_value : Call → Reply → MadeEither
  lent : Call → Answer → QoSScheduler → MadeEither

-- calls made either way, in whatever order: each keeps its contract at the scheduler that the one before returned or left
unfoldable pub Mixed : QoSScheduler → List MadeEither → Type 0
Mixed s [] = Unit
Mixed s (by_value call reply ∷ rest) = Meets call s reply × Mixed reply.state rest
Mixed s (lent call answer after ∷ rest) = MeetsLent call s answer after × Mixed after rest

-- the call, and what the code gave back, whichever way
unfoldable pub made_of : MadeEither → Made
made_of (by_value call reply) = record { call = call; reply = reply }
made_of (lent call answer after) = record { call = call; reply = record { answer = answer; state = after } }

-- the scheduler that a history leaves
unfoldable pub left : QoSScheduler → List Made → QoSScheduler
left s [] = s
left s (a ∷ rest) = left a.reply.state rest

-- its calls, without what came back, and its answers
abbrev pub calls_of : List Made → List Call
calls_of made = map (λ (a : Made). a.call) made

abbrev pub answers_of : List Made → List Answer
answers_of made = map (λ (a : Made). a.reply.answer) made

-- its events: the answers and the states are the code's, and not the rules'
unfoldable pub happened : QoSScheduler → List Made → List Event
happened s [] = []
happened s (a ∷ rest) = record { call = a.call; found = abs s; answer = a.reply.answer } ∷ happened a.reply.state rest

-- X's stretch from a point on, in the history
abbrev pub stretch_in : ℕ → QoSScheduler → List Made → List Event
stretch_in x s next = stretch (breaks x) (picks x) (happened s next)

-- what one call gave back, as the rules put it
abbrev pub outcome_of : Reply → Outcome
outcome_of r = record { answer = r.answer; state = abs r.state }

-- at one point: the start and the calls so far, the scheduler there, and the calls that follow
pub record CodePoint (start : State) (past : List Call) (s : QoSScheduler) (next : List Made) : Type 0 where
  -- what it holds is accepted, as of every scheduler
  pub accepted : Accepted (abs s)
  -- "At each, the scheduler's state equals the one that this paper's rules and refusals make from the start and the calls so far"
  pub states : abs s ≡ run past start
  -- the next answer, status, pick and value, is the rules' answer there
  pub answers : (a : Made) (more : List Made) → next ≡ a ∷ more → a.reply.answer ≡ (step a.call (run past start)).answer
  -- "the answer carries exactly that pick, or none, and those are the picks counted"
  pub carried : (a : Made) (more : List Made) → next ≡ a ∷ more → Carries a.call (abs s) (outcome_of a.reply)
  -- "at every point of every such list, every slot's consumed time is below its band's slice"
  pub consumed : (slot : ℕ) → (task (abs s) slot).consumed_slice_us < slice (task (abs s) slot).qos
  -- "a slot X is Ready with p entries before it in its band"
  pub stands : (x : ℕ) → (task (abs s) x).state ≡ Ready → (rest : List ℕ) × (queue (abs s) (task (abs s) x).qos ≡ ahead (abs s) x ++ x ∷ rest)
  -- "Whatever other tasks and cores do in that stretch, [..]": the picks are those in the code's answers
  pub waiting : (x : ℕ) → (task (abs s) x).state ≡ Ready →
      Waiting (task (abs s) x).qos x (ahead (abs s) x) (stretch_in x s next)

-- "All this is a single claim about the list": at every point, however the history is cut. `start` is the state that the scheduler `s` holds at
-- its start.
abbrev pub CodeClaim : State → QoSScheduler → List Made → Type 0
CodeClaim start s made = (past next : List Made) → past ++ next ≡ made → CodePoint start (calls_of past) (left s past) next
