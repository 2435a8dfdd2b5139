-- Text in blocks (`fed`): what is held of a line stands for the line; how much is used and written; what one feeding promises of that. A block taken
-- line by line, as the code goes, is ByLine's matter; lists of feedings, and the lines of a whole text, are that of the crate claims. Assumes nothing.
use mathlib.Core.Bool.{Bool, true, false, ◌&&◌, false≢true, true≢false}
use mathlib.Core.List.{List, [], ◌∷◌, ◌++◌}
use mathlib.Core.Path.{◌≡◌, refl, sym, ap, ◌∙◌}
use Prim.Native.Nat.{ℕ, zero, suc, ◌+◌, ◌-◌, ◌*◌, ◌≤◌, ◌<◌}
use native.Mathlib.Omega.{arith}
use borrow.Author.Tests.{leb-true, leb-false}
use lib.Dec.{eqb, leb}
use lib.ListN.{length, take, length-append, length-take}
use lib.Seq.{take_all}
use Rattle.std.specs.Prelude.{Option}
use Rattle.rules.specs.declared.call.Call.{Call}
use Rattle.records.proofs.Cases.{split, by_if}
use Rattle.scheduler.specs.Scheduler.{abs}
use Rattle.rules.specs.State.{State}
use Rattle.frames.specs.declared.stream.Fed.{Fed}
use Rattle.frames.specs.declared.stream.Stream.{Stream}
use Rattle.frames.specs.Hex.{to_hex}
use Rattle.frames.specs.Lines.{newline, line_call, said, said_to, line_text, some, answer_to, state_after}
use Rattle.frames.specs.Stream.{longest_line, longest_answer, held_of, FedSoFar, waits, answering, past_byte, ended, fed, held_in, fed_by, Feeds, held_most}
use Rattle.frames.proofs.Digits.{length-to_hex}
use Rattle.frames.proofs.Refused.{long-line}
use Rattle.frames.proofs.Sizes.{said_fits}
use Rattle.frames.proofs.Stores.{take_sets}

-- ---- what is held of a line

take-first : (n : ℕ) (a b : List ℕ) → take n (take n a ++ b) ≡ take n (a ++ b)
take-first zero a b = refl
take-first (suc n) [] b = refl
take-first (suc n) (x ∷ a) b = ap (λ (l : List ℕ). x ∷ l) (take-first n a b)

-- more behind it is more behind the line
pub held_more : (line more : List ℕ) → held_of (held_of line ++ more) ≡ held_of (line ++ more)
held_more line more = take-first held_most line more

pub held-short : (held : List ℕ) → length held ≤ held_most → held_of held ≡ held
held-short held short = take_all held_most held short

-- it is told what the line is: a longer line than any frame is refused, and so is what is held of it
pub call-held : (line : List ℕ) → line_call (held_of line) ≡ line_call line
call-held line =
    split (λ (_ : Bool). line_call (held_of line) ≡ line_call line) (leb (length line) longest_line)
    (λ short. ap line_call (held-short line (omega (arith, leb-true (length line) longest_line short))))
    (λ long.
    let far : longest_line < length line = leb-false (length line) longest_line long in
    long-line (held_of line) (omega (arith, length-take held_most line)) ∙ sym (long-line line far))

module _ (line : List ℕ) (s : State) where
  pub answer_held : answer_to (held_of line) s ≡ answer_to line s
  unfolding answer_to said_to
  answer_held = ap (λ (c : Option Call). line_text (said c s).bytes) (call-held line)

  pub state_held : state_after (held_of line) s ≡ state_after line s
  unfolding state_after said_to
  state_held = ap (λ (c : Option Call). (said c s).state) (call-held line)

-- there is something of it where there is a line
pub some-held : (line : List ℕ) → some (held_of line) ≡ some line
some-held [] = refl
some-held (b ∷ line) = refl

-- ---- how much is written, and used

pub length-line_text : (bytes : List ℕ) → length (line_text bytes) ≡ 2 * length bytes + 1
unfolding line_text
length-line_text bytes = omega (arith, length-append (to_hex bytes) (newline ∷ []), length-to_hex bytes)

-- an answer's line: two digits a byte, and the newline
pub answer_in_lem : (line : List ℕ) (s : State) → length (answer_to line s) ≤ longest_answer
unfolding answer_to
answer_in_lem line s = omega (arith, length-line_text (said_to line s).bytes, said_fits line s)

-- a fact about what is reached where the line that is held is at its end
by_end : (P : FedSoFar → Type 0) (room : ℕ) (s : State) (held : List ℕ) (next : FedSoFar) →
    (length (answer_to held s) ≤ room → P (answering (answer_to held s) next)) → (room < length (answer_to held s) → P (waits true s held)) →
    P (ended room s held next)
by_end P room s held next fits full =
    by_if P (leb (length (answer_to held s)) room) (λ e. fits (leb-true _ _ e)) (λ e. full (leb-false _ _ e))

-- along the bytes of a block
module _ (last : Bool) (P : ℕ → State → List ℕ → List ℕ → FedSoFar → Type 0)
    (stays : (room : ℕ) (s : State) (held : List ℕ) → last && some held ≡ false → P room s held [] (waits false s held))
    (closes : (room : ℕ) (s : State) (held : List ℕ) → last && some held ≡ true → length (answer_to held s) ≤ room →
    P room s held [] (answering (answer_to held s) (waits false (state_after held s) [])))
    (is-full : (room : ℕ) (s : State) (held block : List ℕ) → room < length (answer_to held s) → P room s held block (waits true s held))
    (answers : (room : ℕ) (s : State) (held block : List ℕ) (r : FedSoFar) (b : ℕ) → eqb b newline ≡ true → length (answer_to held s) ≤ room →
    P (room - length (answer_to held s)) (state_after held s) [] block r → P room s held (b ∷ block) (answering (answer_to held s) (past_byte r)))
    (goes_on : (room : ℕ) (s : State) (held block : List ℕ) (r : FedSoFar) (b : ℕ) → eqb b newline ≡ false →
    P room s (held_of (held ++ (b ∷ []))) block r → P room s held (b ∷ block) (past_byte r)) where
  pub along : (block : List ℕ) (room : ℕ) (s : State) (held : List ℕ) → P room s held block (fed last room s held block)
  unfolding fed
  along [] room s held =
      by_if (P room s held []) (last && some held)
      (λ due. by_end (P room s held []) room s held _ (closes room s held due) (is-full room s held []))
      (stays room s held)
  along (b ∷ block) room s held =
      by_if (P room s held (b ∷ block)) (eqb b newline)
      (λ e.
      by_end (P room s held (b ∷ block)) room s held _ (λ fits. answers room s held block _ b e fits (along block _ _ _))
      (is-full room s held (b ∷ block)))
      (λ e. goes_on room s held block _ b e (along block _ _ _))

module _ (last : Bool) where
  pub text_in : (block : List ℕ) (room : ℕ) (s : State) (held : List ℕ) → length (fed last room s held block).text ≤ room
  text_in =
      along last (λ room s held block r. length r.text ≤ room) (λ room s held _. omega arith)
      (λ room s held due fits. omega (arith, length-append (answer_to held s) []))
      (λ room s held block small. omega arith)
      (λ room s held block r b e fits behind. omega (arith, length-append (answer_to held s) r.text))
      (λ room s held block r b e behind. behind)

  pub used_in : (block : List ℕ) (room : ℕ) (s : State) (held : List ℕ) → (fed last room s held block).used ≤ length block
  used_in =
      along last (λ room s held block r. r.used ≤ length block) (λ room s held _. omega arith) (λ room s held due fits. omega arith)
      (λ room s held block small. omega arith)
      (λ room s held block r b e fits behind. omega arith)
      (λ room s held block r b e behind. omega arith)

  -- all is used, unless the buffer is full
  pub all_used : (block : List ℕ) (room : ℕ) (s : State) (held : List ℕ) → (fed last room s held block).full ≡ false →
      (fed last room s held block).used ≡ length block
  all_used =
      along last (λ room s held block r. r.full ≡ false → r.used ≡ length block) (λ room s held _ e. refl) (λ room s held due fits e. refl)
      (λ room s held block small e. absurd (true≢false e))
      (λ room s held block r b e fits behind so. ap suc (behind so))
      (λ room s held block r b e behind so. ap suc (behind so))

  -- and something is used even then, if the buffer has room for any one answer
  pub some_used : (block : List ℕ) (room : ℕ) (s : State) (held : List ℕ) → longest_answer ≤ room → (fed last room s held block).full ≡ true →
      0 < (fed last room s held block).used
  some_used =
      along last (λ room s held block r. longest_answer ≤ room → r.full ≡ true → 0 < r.used) (λ room s held _ wide e. absurd (false≢true e))
      (λ room s held due fits wide e. absurd (false≢true e))
      (λ room s held block small wide e. absurd (omega (arith, answer_in_lem held s)))
      (λ room s held block r b e fits behind wide so. omega arith)
      (λ room s held block r b e behind wide so. omega arith)

-- ---- one feeding

module _ {last : Bool} {stream : Stream} {block before after : List ℕ} {r : Fed} (feeds : Feeds last stream block before after r) where
  -- what stands at the front of the buffer
  pub written_out : take r.written after ≡ (fed_by last stream block (length before)).text
  written_out =
      (λ i. take (feeds.written_is i) (feeds.buffer_is i)) ∙ take_sets before _ (text_in last block (length before) (abs stream.state) (held_in stream))

  pub feeds_in : r.used ≤ length block
  feeds_in = omega (arith, feeds.used_is, used_in last block (length before) (abs stream.state) (held_in stream))

  pub feeds_on : longest_answer ≤ length before → r.is_full ≡ true → 0 < r.used
  feeds_on wide full =
      omega (arith, feeds.used_is, some_used last block (length before) (abs stream.state) (held_in stream) wide (sym feeds.full_is ∙ full))

  pub feeds_all : r.is_full ≡ false → r.used ≡ length block
  feeds_all room = feeds.used_is ∙ all_used last block (length before) (abs stream.state) (held_in stream) (sym feeds.full_is ∙ room)
