-- Demand 3, whole: every history from a new scheduler, or from one that was read from an accepted image, is as `CodeClaim` says. Assumes nothing.
use mathlib.Core.Path.{◌≡◌, subst}
use mathlib.Core.List.{List, map}
use Prim.Native.Nat.{ℕ}
use Rattle.std.specs.Prelude.{Ok}
use Rattle.scheduler.specs.declared.scheduler.QoSScheduler.{QoSScheduler}
use Rattle.claims.specs.History.{MadeEither, Mixed, made_of, CodeClaim}
use Rattle.scheduler.specs.Scheduler.{abs}
use Rattle.scheduler.proofs.Builders.{stored_as}
use Rattle.rules.specs.State.{State}
use Rattle.claims.proofs.Histories.{mixed_is, code_demand3}
use Rattle.frames.specs.AcceptedImage.{AcceptedImage}
use Rattle.frames.specs.ReadWrite.{ReadAs, ReadsImage}
use Rattle.frames.specs.Image.{state_at}
use Rattle.claims.specs.Demand3.{Start, from_new, from_image, start_state, Demand3}
use Rattle.frames.proofs.AcceptedImages.{accepted-state}
use Rattle.frames.proofs.Statuses.{accepted_status}

-- what the reader answers, where it answers a scheduler, is a start
pub read_starts : (image : List ℕ) (s : QoSScheduler) → ReadsImage image (Ok s) → Start s
read_starts image s reads = from_image image reads

-- every accepted image is read as some scheduler
pub a_reading : (image : List ℕ) → AcceptedImage image → (s : QoSScheduler) × ReadAs image s
a_reading image a =
    let s : (s : QoSScheduler) × (abs s ≡ state_at image) = stored_as (state_at image) (accepted-state image a) in
    (s.0, record { accepted = accepted_status image a; state_is = s.1 })

-- a start holds the state that the rules start from
pub start_is : {s : QoSScheduler} (start : Start s) → abs s ≡ start_state start
start_is (from_new new) = new
start_is (from_image image from) = from.state_is

pub demand3 : Demand3
demand3 s start made h = subst (λ (t : State). CodeClaim t s made) (start_is start) (code_demand3 s made h)

-- the same where some of the calls were on a lent state
pub lent_demand3 : (s : QoSScheduler) (start : Start s) (made : List MadeEither) → Mixed s made → CodeClaim (start_state start) s (map made_of made)
lent_demand3 s start made h = demand3 s start (map made_of made) (subst (λ (held : Type 0). held) (mixed_is s made) h)
