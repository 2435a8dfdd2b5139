-- The stored scheduler: what it holds, and what every call promises of it. Each "came from new, an accepted image or an earlier call": its
-- ghost fields say that what it holds is accepted.
use Rattle.std.specs.Prelude.{◌≡◌}
use Rattle.rules.specs.declared.answer.Answer.{Answer}
use Rattle.rules.specs.declared.call.Call.{Call}
use Rattle.scheduler.specs.declared.scheduler.QoSScheduler.{QoSScheduler}
use Rattle.scheduler.specs.declared.scheduler.Reply.{Reply}
use Rattle.rules.specs.State.{State}
use Rattle.rules.specs.Step.{step}
use Rattle.scheduler.specs.Stored.{state_of}

-- the state that it holds
unfoldable pub abs : QoSScheduler → State
abs s = state_of s.tasks s.queues s.current s.system_ticks_us

-- the promise of every call: the whole answer and the whole end state by the rules
pub record Meets (call : Call) (s : QoSScheduler) (r : Reply) : Type 0 where
  pub answer_is : r.answer ≡ (step call (abs s)).answer
  pub state_is : abs r.state ≡ (step call (abs s)).state

-- the same of a call "on a lent scheduler state": `before` stands behind the reference at entry, `after` at exit
abbrev pub MeetsLent : Call → QoSScheduler → Answer → QoSScheduler → Type 0
MeetsLent call before answer after = Meets call before (record { answer = answer; state = after })
