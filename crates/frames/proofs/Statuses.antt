-- The status of an image: 7 for another length, then 8 where it is not accepted, and accepted is what the conditions say. Assumes nothing.
use mathlib.Core.Path.{◌≡◌, refl, sym, ◌∙◌}
use mathlib.Core.Bool.{Bool, true, false, cond, not}
use mathlib.Core.List.{List}
use Prim.Native.Nat.{ℕ}
use borrow.Author.Tests.{eq-eqb, ne_eqb}
use lib.Dec.{eqb}
use lib.ListN.{length}
use Rattle.records.proofs.Cases.{split}
use Rattle.std.specs.Prelude.{Result, Ok, Err}
use Rattle.frames.specs.declared.refusal.HostError.{HostError}
use Rattle.frames.specs.declared.refusal.HostError.TheVariants.{WrongLength, NotAccepted}
use Rattle.frames.specs.AcceptedImage.{AcceptedImage, accepts_image}
use Rattle.frames.specs.ReadWrite.{image_status}
use Rattle.frames.specs.Image.{image_length}
use Rattle.frames.proofs.AcceptedImages.{accepts-image}

module _ (image : List ℕ) where
  pub status_length : (length image ≡ image_length → ⊥) → image_status image ≡ Err WrongLength
  unfolding image_status
  status_length other = rw (ne_eqb (length image) image_length other)

  module _ {r : Bool} (long : length image ≡ image_length) (is : r ≡ accepts_image image) where
    pub status_refused : r ≡ false → image_status image ≡ Err NotAccepted
    unfolding image_status
    status_refused h = rw (eq-eqb (length image) image_length long, sym is ∙ h)

    pub status_passed : r ≡ true → image_status image ≡ Ok tt
    unfolding image_status
    status_passed h = rw (eq-eqb (length image) image_length long, sym is ∙ h)

  -- accepted is what the conditions say
  pub accepted_status : AcceptedImage image → image_status image ≡ Ok tt
  accepted_status a = status_passed a.length_is refl ((accepts-image image).1 a)

  pub status_says : image_status image ≡ Ok tt → AcceptedImage image
  unfolding image_status
  status_says =
      let done : Result Unit HostError = Ok tt in
      let then : Result Unit HostError = cond (not (accepts_image image)) (Err NotAccepted) (Ok tt) in
      split (λ (b : Bool). cond (not b) (Err WrongLength) then ≡ Ok tt → AcceptedImage image) (eqb (length image) image_length)
      (λ _. split (λ (b : Bool). cond (not b) (Err NotAccepted) (Ok tt) ≡ Ok tt → AcceptedImage image) (accepts_image image)
      (λ yes _. (accepts-image image).0 yes)
      (λ _ (e : Err NotAccepted ≡ done). cc))
      (λ _ (e : Err WrongLength ≡ done). cc)
