-- Document 01, "Call frames": "The host kernel, written in C, passes image, frame bytes and answer buffer." A new image, what a
-- call makes of an image, and what a frame makes of an image and a buffer: the table of refusals in its order, on lists of bytes.
use Rattle.std.specs.Prelude.{Bool, cond, not, ◌||◌, List, ℕ, ◌+◌, ltb, eqb, length, Option, None, Some, Result, Ok, Err}
use Rattle.std.proofs.lemmas.List.Edits.{sets}
use Rattle.rules.specs.declared.answer.Answer.{Answer}
use Rattle.rules.specs.declared.call.Call.{Call}
use Rattle.rules.specs.Outcome.{Outcome}
use Rattle.rules.specs.State.{new_state}
use Rattle.rules.specs.Step.{step}
use Rattle.frames.specs.declared.refusal.HostError.{HostError}
use Rattle.frames.specs.declared.refusal.HostError.TheVariants.{WrongLength, NotAccepted, NoFrame}
use Rattle.frames.specs.AcceptedImage.{accepts_image}
use Rattle.frames.specs.Answer.{answer_bytes}
use Rattle.frames.specs.Frame.{frame_call}
use Rattle.frames.specs.Image.{image_length, image_of, state_at}
use Rattle.frames.specs.ReadWrite.{image_status}

-- "host entry, lengths: 7", "host entry, image: 8", "frame: 9"
abbrev pub host_number : HostError → ℕ
host_number WrongLength = 7
host_number NotAccepted = 8
host_number NoFrame = 9

-- "256 plus refusal 7, 8 or 9"
abbrev pub refusal_returned : HostError → ℕ
refusal_returned e = 256 + host_number e

-- "It gets the answer's length, or 256 plus refusal 7, 8 or 9"
abbrev pub returned : Result ℕ HostError → ℕ
returned (Ok n) = n
returned (Err e) = refusal_returned e

-- an "answer buffer under 51" is refused
abbrev pub answer_room : ℕ
answer_room = 51

-- ---- a call on an image

-- what it answers, and the image then
pub record OnImage : Type 0 where
  pub answer : Result Answer HostError
  pub image : List ℕ

abbrev pub on_image : Result Answer HostError → List ℕ → OnImage
on_image answer image = record { answer = answer; image = image }

-- "the image then holds the state after the call"; refused images stay as they are
abbrev pub called_in : Result Unit HostError → Call → List ℕ → OnImage
called_in (Err e) call image = on_image (Err e) image
called_in (Ok _) call image = on_image (Ok (step call (state_at image)).answer) (image_of (step call (state_at image)).state)

unfoldable pub call_on_image : Call → List ℕ → OnImage
call_on_image call image = called_in (image_status image) call image

-- ---- a new image (added: document 01 has a host pass images, and does not say where it gets its first)

-- what the host gets, and the image then
pub record FirstImage : Type 0 where
  pub returned : ℕ
  pub image : List ℕ

abbrev pub first_image : ℕ → List ℕ → FirstImage
first_image n image = record { returned = n; image = image }

-- 0, or 256 plus refusal 7
abbrev pub made : Result Unit HostError → ℕ
made (Ok _) = 0
made (Err e) = refusal_returned e

-- the image of "New"; 7 "image not 3,275 bytes", which is left as it was
unfoldable pub host_new : List ℕ → FirstImage
host_new image = cond (eqb (length image) image_length) (first_image 0 (image_of new_state)) (first_image (refusal_returned WrongLength) image)

-- ---- a frame on an image

-- what the host gets, and image and answer buffer then
pub record Hosted : Type 0 where
  pub returned : ℕ
  pub image : List ℕ
  pub answer : List ℕ

abbrev pub hosted : ℕ → List ℕ → List ℕ → Hosted
hosted n image answer = record { returned = n; image = image; answer = answer }

-- "or 256 plus refusal 7, 8 or 9"; "7, 8 and 9 at the host entry leave the answer buffer too"
abbrev pub host_refused : HostError → List ℕ → List ℕ → Hosted
host_refused e image answer = hosted (refusal_returned e) image answer

-- "It gets the answer's length [..]; the image then holds the state after the call, and buffer bytes past the answer keep their contents."
abbrev pub host_answered : Outcome → List ℕ → Hosted
host_answered o answer = hosted (length (answer_bytes o.answer)) (image_of o.state) (sets answer 0 (answer_bytes o.answer))

-- 9, or the call
abbrev pub host_called : Option Call → List ℕ → List ℕ → Hosted
host_called None image answer = host_refused NoFrame image answer
host_called (Some call) image answer = host_answered (step call (state_at image)) answer

-- 7: "image not 3,275 bytes, or answer buffer under 51"
abbrev pub wrong_length : List ℕ → List ℕ → Bool
wrong_length image answer = not (eqb (length image) image_length) || ltb (length answer) answer_room

-- the table: lengths, image, frame, call
unfoldable pub host_step : List ℕ → List ℕ → List ℕ → Hosted
host_step image frame answer =
    cond (wrong_length image answer) (host_refused WrongLength image answer)
    (cond (not (accepts_image image)) (host_refused NotAccepted image answer)
    (host_called (frame_call frame) image answer))
