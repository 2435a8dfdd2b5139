-- What the reader and the writer of images promise: 7 and 8 for what is no image, the state that an accepted image stands for, and the image of a
-- state.
use Rattle.std.specs.Prelude.{◌≡◌, cond, not, List, ℕ, eqb, length, Result, Ok, Err, MatchResult}
use Rattle.rules.specs.State.{State, new_state}
use Rattle.scheduler.specs.declared.scheduler.QoSScheduler.{QoSScheduler}
use Rattle.scheduler.specs.Scheduler.{abs}
use Rattle.frames.specs.declared.read.RefusedImage.{RefusedImage}
use Rattle.frames.specs.declared.refusal.HostError.{HostError}
use Rattle.frames.specs.declared.refusal.HostError.TheVariants.{WrongLength, NotAccepted}
use Rattle.frames.specs.AcceptedImage.{accepts_image}
use Rattle.frames.specs.Image.{image_length, image_of, state_at}
use Rattle.frames.specs.Fits.{HasImage}

-- ---- reading an image

-- 7 "image not 3,275 bytes", then 8 "not accepted"
unfoldable pub image_status : List ℕ → Result Unit HostError
image_status image =
    cond (not (eqb (length image) image_length)) (Err WrongLength)
    (cond (not (accepts_image image)) (Err NotAccepted) (Ok tt))

-- a scheduler of the state that an accepted image stands for
pub record ReadAs (image : List ℕ) (s : QoSScheduler) : Type 0 where
  pub accepted : image_status image ≡ Ok tt
  pub state_is : abs s ≡ state_at image

-- the image's refusal, and the new scheduler
pub record RefusedAs (image : List ℕ) (r : RefusedImage) : Type 0 where
  pub status_is : image_status image ≡ Err r.error
  pub state_is : abs r.state ≡ new_state

-- what the reader promises of any bytes: the scheduler that they stand for, or their refusal with the new one
abbrev pub ReadsImage : List ℕ → Result QoSScheduler RefusedImage → Type 0
ReadsImage image r = MatchResult r (ReadAs image) (RefusedAs image)

-- ---- writing an image

-- The state's image is written over a buffer of an image's length, and no other buffer is touched. A scheduler's numbers fit their fields by their
-- types, so that what is written is an image that is accepted, and reads as the same state.
pub record WritesImage (s : State) (before after : List ℕ) (r : Result Unit HostError) : Type 0 where
  pub done_is : r ≡ cond (eqb (length before) image_length) (Ok tt) (Err WrongLength)
  pub image_is : after ≡ cond (eqb (length before) image_length) (image_of s) before
  pub has_image : HasImage s
