-- The host entry, as a host may count on it: what is refused leaves image and buffer as they were, what is done leaves an accepted image of the
-- state after the call. Lists of such calls are the matter of the crate claims. Assumes nothing.
use mathlib.Core.Path.{◌≡◌, refl, sym, ap, ◌∙◌}
use mathlib.Core.Bool.{not}
use mathlib.Core.List.{List, [], ◌∷◌}
use Prim.Native.Nat.{ℕ, ◌≤◌, ◌<◌}
use native.Mathlib.Omega.{arith}
use borrow.Author.Tests.{eq-eqb, le-ltb}
use lib.Dec.{eqb}
use lib.ListN.{length}
use lib.Seq.{sets}
use Rattle.std.specs.Prelude.{Option, None, Some, Err}
use Rattle.records.specs.declared.error.SchedError.{SchedError}
use Rattle.records.specs.declared.error.SchedError.TheVariants.{TableFull, QueueFull, NoSuchTask, AlreadyReady, AlreadyBlocked, NotBlocked}
use Rattle.records.specs.Error.{error_code}
use Rattle.records.proofs.Cases.{by_if}
use Rattle.rules.specs.declared.call.Call.{Call}
use Rattle.rules.specs.Outcome.{Outcome, refusal, refused}
use Rattle.rules.specs.Paper.{paper}
use Rattle.rules.specs.State.{none_byte, new_state}
use Rattle.rules.specs.Step.{step}
use Rattle.rules.proofs.Refusals.{refused-whole}
use Rattle.frames.specs.declared.refusal.HostError.TheVariants.{WrongLength}
use Rattle.frames.specs.AcceptedImage.{AcceptedImage, accepts_image}
use Rattle.frames.specs.Answer.{answer_bytes}
use Rattle.frames.specs.Bytes.{bytes_of}
use Rattle.frames.specs.Fits.{FitsCall, HasImage}
use Rattle.frames.specs.Frame.{frame_call}
use Rattle.frames.specs.Host.{answer_room, host_refused, call_on_image, FirstImage, host_new, Hosted, hosted, host_answered, host_called, wrong_length, host_step}
use Rattle.frames.specs.Image.{image_length, image_of, state_at}
use Rattle.frames.proofs.AcceptedImages.{accepts-image}
use Rattle.frames.proofs.Hosting.{step_short}
use Rattle.frames.proofs.Images.{writes_back}
use Rattle.frames.proofs.StatesFit.{call_has_image, new_has_image, image_has_image}
use Rattle.frames.proofs.Statuses.{accepted_status}
use Rattle.frames.proofs.Sizes.{answer-fits}

-- ---- refused

-- "7, 8 and 9 at the host entry leave the answer buffer too"
pub refused-untouched : (image frame answer : List ℕ) → 256 ≤ (host_step image frame answer).returned →
    ((host_step image frame answer).image ≡ image) × ((host_step image frame answer).answer ≡ answer)
unfolding host_step
refused-untouched image frame answer =
    by_if Leaves (wrong_length image answer) (λ _ _. (refl, refl)) (λ _.
    by_if Leaves (not (accepts_image image)) (λ _ _. (refl, refl)) (λ _. called (frame_call frame)))
  where
    Leaves : Hosted → Type 0
    Leaves h = 256 ≤ h.returned → (h.image ≡ image) × (h.answer ≡ answer)

    called : (c : Option Call) → Leaves (host_called c image answer)
    called None h = (refl, refl)
    called (Some call) h = absurd (omega (arith, h, answer-fits (step call (state_at image)).answer))

-- 1 to 6 are answers of three bytes, the refusal and no pick
refusal-bytes : (e : SchedError) → answer_bytes (refusal e) ≡ error_code e ∷ none_byte ∷ none_byte ∷ []
unfolding answer_bytes bytes_of paper
refusal-bytes TableFull = refl
refusal-bytes QueueFull = refl
refusal-bytes NoSuchTask = refl
refusal-bytes AlreadyReady = refl
refusal-bytes AlreadyBlocked = refl
refusal-bytes NotBlocked = refl

-- ---- an accepted image

-- the image of the new state is accepted, and stands for it
pub new-image : AcceptedImage (image_of new_state) × (state_at (image_of new_state) ≡ new_state)
new-image = (new_has_image.image_accepted, new_has_image.reads_as)

-- so what `write_new_image` writes is accepted, and stands for new
pub made-accepted : (image : List ℕ) → (host_new image).returned ≡ 0 → AcceptedImage (host_new image).image × (state_at (host_new image).image ≡ new_state)
unfolding host_new
made-accepted image = by_if StandsForNew (eqb (length image) image_length) (λ _ _. new-image) (λ _ h. absurd (omega (arith, h)))
  where
    StandsForNew : FirstImage → Type 0
    StandsForNew m = m.returned ≡ 0 → AcceptedImage m.image × (state_at m.image ≡ new_state)

-- 7 for a buffer that is too short, whatever the image
pub short-step : (image frame answer : List ℕ) → length answer < answer_room → host_step image frame answer ≡ host_refused WrongLength image answer
short-step image frame answer short = sym (step_short image frame answer short)

module _ (image : List ℕ) (a : AcceptedImage image) where
  -- neither 7 nor 8
  pub accepted_step : (frame answer : List ℕ) → answer_room ≤ length answer → host_step image frame answer ≡ host_called (frame_call frame) image answer
  unfolding host_step
  accepted_step frame answer room = rw (eq-eqb (length image) image_length a.length_is, le-ltb (length answer) answer_room room, (accepts-image image).1 a)

  -- "a refused call changes neither state nor image"
  pub refused_answer : (frame answer : List ℕ) (call : Call) (e : SchedError) → answer_room ≤ length answer → frame_call frame ≡ Some call →
      (step call (state_at image)).answer.status ≡ Err e →
      host_step image frame answer ≡ hosted 3 image (sets answer 0 (error_code e ∷ none_byte ∷ none_byte ∷ []))
  refused_answer frame answer call e room is refuses =
      let whole : step call (state_at image) ≡ refused e (state_at image) = refused-whole call (state_at image) e refuses in
      accepted_step frame answer room
      ∙ ap (λ (c : Option Call). host_called c image answer) is
      ∙ ap (λ (o : Outcome). host_answered o answer) whole
      ∙ (λ i. hosted (length (refusal-bytes e i)) (writes_back image a i) (sets answer 0 (refusal-bytes e i)))

  -- a call on it leaves an accepted image of the state after the call
  pub called_accepted : (call : Call) → FitsCall call →
      AcceptedImage (call_on_image call image).image × (state_at (call_on_image call image).image ≡ (step call (state_at image)).state)
  unfolding call_on_image
  called_accepted call fit =
      let has : HasImage (step call (state_at image)).state = call_has_image call (state_at image) fit (image_has_image image a) in
      rw (accepted_status image a) (has.image_accepted, has.reads_as)
