-- Demand 3 for a host that calls `step` again and again on one image: at every point the image holds the state that the rules make, and the answers
-- in the buffers are a history's.
use Rattle.std.specs.Prelude.{◌≡◌, cond, List, [], ◌∷◌, ◌++◌, ℕ, ltb, length}
use Rattle.std.proofs.lemmas.List.Edits.{sets}
use Rattle.rules.specs.declared.answer.Answer.{Answer}
use Rattle.rules.specs.Paper.{pick_numbers}
use Rattle.rules.specs.State.{State}
use Rattle.rules.specs.Step.{run}
use Rattle.scheduler.specs.declared.scheduler.QoSScheduler.{QoSScheduler}
use Rattle.scheduler.specs.Scheduler.{abs}
use Rattle.frames.specs.declared.refusal.HostError.{HostError}
use Rattle.frames.specs.declared.refusal.HostError.TheVariants.{WrongLength, NoFrame}
use Rattle.frames.specs.AcceptedImage.{AcceptedImage}
use Rattle.frames.specs.Answer.{answer_bytes, pick_in}
use Rattle.frames.specs.Bytes.{AllBytes}
use Rattle.frames.specs.Frame.{frame_call}
use Rattle.frames.specs.Host.{refusal_returned, answer_room, Hosted, host_step}
use Rattle.frames.specs.Image.{image_of, state_at}
use Rattle.claims.specs.History.{Made, left}
use Rattle.frames.specs.ReadWrite.{ReadAs}
use Rattle.claims.specs.Requests.{Protocol, calls_among, call_in, RefusedOr, AskedPoint, Asks}

-- one call: its frame, the answer buffer before, and what came back
pub record HostCall : Type 0 where
  pub frame : List ℕ
  pub buffer : List ℕ
  pub got : Hosted

-- each call keeps the contract of `step`, its frame being bytes, and gets the image that the one before left; "nobody else writes it meanwhile"
unfoldable pub HostCalls : List ℕ → List HostCall → Type 0
HostCalls image [] = Unit
HostCalls image (h ∷ rest) = (AllBytes h.frame × (h.got ≡ host_step image h.frame h.buffer)) × HostCalls h.got.image rest

-- the image that they leave
unfoldable pub image_left : List ℕ → List HostCall → List ℕ
image_left image [] = image
image_left image (h ∷ rest) = image_left h.got.image rest

-- 7 for a buffer that is too short, else 9 for what is no frame
abbrev pub refusal_to : HostCall → HostError
refusal_to h = cond (ltb (length h.buffer) answer_room) WrongLength NoFrame

-- any other frame is answered in the buffer, whose second and third byte are then the pick's slot and band
pub record HasAnswer (h : HostCall) (answer : Answer) : Type 0 where
  pub returned_is : h.got.returned ≡ length (answer_bytes answer)
  pub buffer_is : h.got.answer ≡ sets h.buffer 0 (answer_bytes answer)
  pub pick_is : pick_in h.got.answer ≡ pick_numbers answer.pick

-- 7 and 9 leave the buffer as it was
abbrev pub by_host : Protocol HostCall
by_host = record {
  asked = λ h. cond (ltb (length h.buffer) answer_room) [] (call_in (frame_call h.frame));
  Told = λ h s. RefusedOr ((h.got.returned ≡ refusal_returned (refusal_to h)) × (h.got.answer ≡ h.buffer)) (HasAnswer h);
}

-- At a point: "the image then holds the state after the call", which the rules make from the start; it is accepted again, and stands for the state at
-- that point of the history.
pub record HostPoint (start : State) (s : QoSScheduler) (whole : List Made) (past next : List HostCall) (image : List ℕ) : Type 0 where
  pub image_is : image ≡ image_of (run (calls_among by_host past) start)
  pub accepted : AcceptedImage image
  pub asked : AskedPoint by_host start s whole past next
  pub stands_for : state_at image ≡ abs (left s asked.made)

pub record HostClaim (image : List ℕ) (calls : List HostCall) : Type 0 where
  -- the scheduler that the image stands for
  pub scheduler : QoSScheduler
  pub read_as : ReadAs image scheduler
  -- the calls are a history of it, and the answers in the buffers are that history's
  pub asks : Asks by_host (state_at image) scheduler calls
  -- at every point, however the list is cut
  pub points : (past next : List HostCall) → past ++ next ≡ calls →
      HostPoint (state_at image) scheduler asks.made past next (image_left image past)
