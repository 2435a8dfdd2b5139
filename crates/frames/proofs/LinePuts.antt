-- An answer stored as a line of text in a buffer: its digits and the newline, all of it where it has room, else nothing. Assumes nothing.
use mathlib.Core.Bool.{true, false}
use mathlib.Core.List.{List, [], ◌∷◌}
use mathlib.Core.Path.{◌≡◌, refl, sym, ap, subst, ◌∙◌}
use Prim.Native.Nat.{ℕ, ◌+◌, ◌-◌, ◌*◌, ◌≤◌, ◌<◌}
use native.Mathlib.Omega.{arith}
use borrow.Author.Tests.{leb-true, leb-false, le-leb, lt-leb}
use lib.Dec.{leb}
use lib.ListN.{length, take, set, length-take}
use lib.Seq.{sets}
use Rattle.std.specs.Prelude.{Option, None, Some}
use Rattle.rules.specs.declared.answer.Answer.{Answer}
use Rattle.frames.specs.Answer.{answer_bytes}
use Rattle.frames.specs.Bytes.{Puts}
use Rattle.frames.specs.Hex.{to_hex}
use Rattle.frames.specs.Lines.{newline, line_text}
use Rattle.frames.specs.Private.{PutsLine}
use Rattle.frames.proofs.Cuts.{test}
use Rattle.frames.proofs.Digits.{length-to_hex}
use Rattle.frames.proofs.Sizes.{answer-fits}
use Rattle.frames.proofs.Stores.{sets_append, take_sets}
use Rattle.frames.proofs.Streams.{length-line_text}

-- where it has room, and where it has none
module _ (bytes : List ℕ) (at : ℕ) (before : List ℕ) where
  -- the digits, then the newline
  pub line_put : {mid : List ℕ} → 2 * length bytes < length before - at → mid ≡ sets before at (to_hex bytes) →
      PutsLine bytes at before (set mid (at + 2 * length bytes) newline) (Some (2 * length bytes + 1))
  unfolding line_text
  line_put fits digits =
      let size : length (line_text bytes) ≡ 2 * length bytes + 1 = length-line_text bytes in
      let all : leb (length (line_text bytes)) (length before - at) ≡ true = le-leb _ _ (omega (arith, size)) in
      let stored = (λ i. set (digits i) (at + sym (length-to_hex bytes) i) newline) ∙ sym (sets_append before at (to_hex bytes) (newline ∷ [])) in
      record { buffer_is = rw all stored; size_is = rw all (ap Some (sym size)) }

  pub line_not_put : length before - at ≤ 2 * length bytes → PutsLine bytes at before before None
  line_not_put small =
      let none : leb (length (line_text bytes)) (length before - at) ≡ false = lt-leb _ _ (omega (arith, length-line_text bytes)) in
      record { buffer_is = rw none refl; size_is = rw none refl }

  -- and the other way round
  pub was_put : {after : List ℕ} {n : ℕ} → PutsLine bytes at before after (Some n) →
      (n ≡ length (line_text bytes)) × (n ≤ length before - at) × (after ≡ sets before at (line_text bytes))
  was_put {after} {n} puts =
      test (leb (length (line_text bytes)) (length before - at))
      (λ e.
      let same : Some n ≡ Some (length (line_text bytes)) = rw e at puts.size_is in
      let size : n ≡ length (line_text bytes) = cc in
      (size, omega (arith, leb-true (length (line_text bytes)) (length before - at) e), rw e at puts.buffer_is))
      (λ e.
      let none : Some n ≡ None = rw e at puts.size_is in
      absurd (cc))

  pub was_not_put : {after : List ℕ} → PutsLine bytes at before after None → (length before - at < length (line_text bytes)) × (after ≡ before)
  was_not_put puts =
      test (leb (length (line_text bytes)) (length before - at))
      (λ e.
      let all : None ≡ Some (length (line_text bytes)) = rw e at puts.size_is in
      absurd (cc))
      (λ e. (leb-false _ _ e, rw e at puts.buffer_is))

-- an answer's bytes at the front of a buffer, once that has room for every answer
module _ (a : Answer) {before after : List ℕ} {n : ℕ} (puts : Puts (answer_bytes a) 0 before after n) (room : length before ≡ 51) where
  put_front : take n after ≡ answer_bytes a
  put_front = (λ i. take (puts.length_is i) (puts.buffer_is i)) ∙ take_sets before (answer_bytes a) (omega (arith, answer-fits a))

  pub put_length : n ≡ length (take n after)
  put_length = puts.length_is ∙ sym (ap length put_front)

  pub put_inside : n ≤ length after
  put_inside = omega (arith, put_length, length-take n after)

  -- and as a line
  pub put_as : {at : ℕ} {out out' : List ℕ} {r : Option ℕ} → PutsLine (take n after) at out out' r → PutsLine (answer_bytes a) at out out' r
  put_as {at} {out} {out'} {r} put = subst (λ (l : List ℕ). PutsLine l at out out' r) put_front put
