-- The host's entries: each way out of `write_new_image`, of a call on an image and of `frame_on_image`. Assumes nothing.
use mathlib.Core.Path.{◌≡◌, refl, sym, ap, ◌∙◌}
use mathlib.Core.Bool.{Bool, true, false, cond, not, ◌||◌, or-true, true≢false}
use mathlib.Core.List.{List}
use Prim.Native.Nat.{ℕ, ◌≤◌, ◌<◌}
use native.Mathlib.Omega.{arith}
use borrow.Author.Tests.{lt-ltb, le-ltb}
use lib.Dec.{eqb}
use lib.ListN.{length}
use Rattle.std.specs.Prelude.{Option, None, Some, Result, Ok, Err, is_ok}
use Rattle.std.proofs.lemmas.List.Edits.{sets}
use Rattle.records.specs.declared.error.SchedError.{SchedError}
use Rattle.rules.specs.declared.answer.Answer.{Answer}
use Rattle.rules.specs.declared.call.Call.{Call}
use Rattle.scheduler.specs.declared.scheduler.QoSScheduler.{QoSScheduler}
use Rattle.scheduler.specs.declared.scheduler.Reply.{Reply}
use Rattle.rules.specs.Outcome.{Outcome}
use Rattle.scheduler.specs.Scheduler.{abs, Meets}
use Rattle.rules.specs.State.{State, new_state, task}
use Rattle.rules.specs.Step.{step}
use Rattle.rules.specs.Touched.{named_slot, answered_slot, SameBut}
use Rattle.rules.proofs.Elsewhere.{records_stay}
use Rattle.rules.proofs.Refusals.{refused-whole}
use Rattle.frames.specs.declared.refusal.HostError.{HostError}
use Rattle.frames.specs.declared.refusal.HostError.TheVariants.{WrongLength, NotAccepted, NoFrame}
use Rattle.frames.specs.AcceptedImage.{AcceptedImage, accepts_image}
use Rattle.frames.specs.Answer.{answer_bytes}
use Rattle.frames.specs.Bytes.{Puts}
use Rattle.frames.specs.Frame.{frame_call}
use Rattle.frames.specs.Host.{host_number, refusal_returned, made, answer_room, OnImage, on_image, called_in, call_on_image, first_image, host_new, Hosted, hosted, host_refused, host_called, host_step}
use Rattle.frames.specs.Private.{CalledOn}
use Rattle.frames.specs.ReadWrite.{image_status, WritesImage}
use Rattle.frames.specs.Image.{image_length, image_of, state_at}
use Rattle.frames.proofs.Images.{writes_back}

pub host_number-small : (e : HostError) → host_number e ≤ 9
host_number-small WrongLength = omega arith
host_number-small NotAccepted = omega arith
host_number-small NoFrame = omega arith

-- ---- a new image

-- what `write_new_image` gets from the writer
pub new_made : {s : State} {before after : List ℕ} {r : Result Unit HostError} → s ≡ new_state → WritesImage s before after r →
    first_image (made r) after ≡ host_new before
unfolding host_new
new_made {s} {before} new writes =
    (λ i. first_image (made (writes.done_is i)) (writes.image_is i))
    ∙ ap (λ t. first_image (made (cond fits (Ok tt) (Err WrongLength))) (cond fits (image_of t) before)) new
    ∙ either fits
  where
    fits : Bool
    fits = eqb (length before) image_length

    either : (t : Bool) → first_image (made (cond t (Ok tt) (Err WrongLength))) (cond t (image_of new_state) before)
        ≡ cond t (first_image 0 (image_of new_state)) (first_image (refusal_returned WrongLength) before)
    either true = refl
    either false = refl

-- ---- a call on an image

-- "a refused call changes neither state nor image": the image of the state that a refused call leaves is the image itself
pub refused-image : (image : List ℕ) → AcceptedImage image → (call : Call) {e : SchedError} → (step call (state_at image)).answer.status ≡ Err e →
    image_of (step call (state_at image)).state ≡ image
refused-image image a call {e} is = ap (λ (o : Outcome). image_of o.state) (refused-whole call (state_at image) e is) ∙ writes_back image a

module _ (call : Call) (before : List ℕ) {s : QoSScheduler} (from : abs s ≡ state_at before) {reply : Reply} (meets : Meets call s reply) where
  told_is : reply.answer ≡ (step call (state_at before)).answer
  told_is = meets.answer_is ∙ ap (λ (t : State). (step call t).answer) from

  left_is : abs reply.state ≡ (step call (state_at before)).state
  left_is = meets.state_is ∙ ap (λ (t : State). (step call t).state) from

  -- the ways out of a call on an accepted image
  pub answers_refused : AcceptedImage before → is_ok reply.answer.status ≡ false → CalledOn call before before reply.answer
  answers_refused a failed = go reply.answer.status refl failed
    where
      go : (st : Result Unit SchedError) → reply.answer.status ≡ st → is_ok st ≡ false → CalledOn call before before reply.answer
      go (Ok _) is failed = absurd (true≢false failed)
      go (Err e) is failed = record {
        answer_is = told_is;
        image_is = sym (refused-image before a call (ap (λ (r : Answer). r.status) (sym told_is) ∙ is));
      }

  pub answers_done : {after : List ℕ} → after ≡ image_of (abs reply.state) → CalledOn call before after reply.answer
  answers_done is = record { answer_is = told_is; image_is = is ∙ ap image_of left_is }

  -- and which records need not be written
  pub untouched : {named answered : ℕ} → named ≡ named_slot call (state_at before) → answered ≡ answered_slot reply.answer →
      SameBut named answered (state_at before) (abs reply.state)
  untouched n a slot not_named not-answered =
      ap (λ (t : State). task t slot) left_is
      ∙ records_stay call (state_at before) slot (λ e. not_named (e ∙ sym n)) (λ e. not-answered (e ∙ ap answered_slot (sym told_is) ∙ sym a))

-- the image's status decides
module _ (call : Call) {before : List ℕ} where
  pub called_refused : {e : HostError} → image_status before ≡ Err e → on_image (Err e) before ≡ call_on_image call before
  unfolding call_on_image
  called_refused refused = ap (λ (t : Result Unit HostError). called_in t call before) (sym refused)

  pub called_done : {after : List ℕ} {r : Answer} → image_status before ≡ Ok tt → CalledOn call before after r →
      on_image (Ok r) after ≡ call_on_image call before
  unfolding call_on_image
  called_done accepted answers =
      (λ i. on_image (Ok (answers.answer_is i)) (answers.image_is i)) ∙ ap (λ (t : Result Unit HostError). called_in t call before) (sym accepted)

-- ---- a frame on an image

module _ (image answer : List ℕ) where
  -- by the image's status, where the buffer is long enough
  abbrev host_on : Result Unit HostError → Option Call → Hosted
  host_on (Err e) c = host_refused e image answer
  host_on (Ok _) c = host_called c image answer

  on_tests : (long refused : Bool) (c : Option Call) →
      cond (long || false) (host_refused WrongLength image answer) (cond refused (host_refused NotAccepted image answer) (host_called c image answer))
      ≡ host_on (cond long (Err WrongLength) (cond refused (Err NotAccepted) (Ok tt))) c
  on_tests true refused c = refl
  on_tests false true c = refl
  on_tests false false c = refl

  -- what a host gets of what a call on the image came to
  abbrev told : Result Answer HostError → List ℕ → Hosted
  told (Err e) after = host_refused e after answer
  told (Ok a) after = hosted (length (answer_bytes a)) after (sets answer 0 (answer_bytes a))

  abbrev host_of : OnImage → Hosted
  host_of o = told o.answer o.image

  on_call : (call : Call) (st : Result Unit HostError) → host_of (called_in st call image) ≡ host_on st (Some call)
  on_call call (Err e) = refl
  on_call call (Ok _) = refl

-- the ways out of `frame_on_image`
module _ (image frame answer : List ℕ) where
  pub step_short : length answer < answer_room → hosted (refusal_returned WrongLength) image answer ≡ host_step image frame answer
  unfolding host_step
  step_short h = sym (rw (lt-ltb (length answer) answer_room h, or-true))

  module _ (h : answer_room ≤ length answer) where
    by_status : host_on image answer (image_status image) (frame_call frame) ≡ host_step image frame answer
    unfolding host_step image_status
    by_status =
        sym (rw (le-ltb (length answer) answer_room h)
        (on_tests image answer (not (eqb (length image) image_length)) (not (accepts_image image)) (frame_call frame)))

    at_status : {st : Result Unit HostError} {c : Option Call} → image_status image ≡ st → frame_call frame ≡ c → host_on image answer st c ≡ host_step image frame answer
    at_status is decoded = sym (λ i. host_on image answer (is i) (decoded i)) ∙ by_status

    -- no call was made: the image is refused, or the frame
    pub step_refused : {e : HostError} → image_status image ≡ Err e → hosted (refusal_returned e) image answer ≡ host_step image frame answer
    step_refused is = at_status is refl

    pub step_none : image_status image ≡ Ok tt → frame_call frame ≡ None → hosted (refusal_returned NoFrame) image answer ≡ host_step image frame answer
    step_none = at_status

    -- a call on the image was
    module _ {call : Call} (decoded : frame_call frame ≡ Some call) {r : Result Answer HostError} {after : List ℕ}
        (called : on_image r after ≡ call_on_image call image) where
      by_call : told image answer r after ≡ host_step image frame answer
      unfolding call_on_image
      by_call = ap (host_of image answer) called ∙ on_call image answer call (image_status image) ∙ at_status refl decoded

    pub step_call_refused : {call : Call} {after : List ℕ} {e : HostError} → frame_call frame ≡ Some call → on_image (Err e) after ≡ call_on_image call image →
        hosted (refusal_returned e) after answer ≡ host_step image frame answer
    step_call_refused decoded called = by_call decoded called

    pub step_answered : {call : Call} {after out : List ℕ} {a : Answer} {n : ℕ} → frame_call frame ≡ Some call → on_image (Ok a) after ≡ call_on_image call image →
        Puts (answer_bytes a) 0 answer out n → hosted n after out ≡ host_step image frame answer
    step_answered {after = after} decoded called puts = (λ i. hosted (puts.length_is i) after (puts.buffer_is i)) ∙ by_call decoded called
