-- A block taken line by line, as the code goes: what its first line makes of a stream, and then what comes behind it (`fed_line`). Assumes nothing.
use mathlib.Core.Bool.{Bool, true, false, cond, ◌&&◌, ◌||◌, and-false}
use mathlib.Core.List.{List, [], ◌∷◌, ◌++◌, append_assoc, append-nil}
use mathlib.Core.Path.{◌≡◌, refl, sym, ap, ◌∙◌}
use Prim.Native.Nat.{ℕ, suc, ◌+◌, ◌-◌, ◌≤◌, ◌<◌, min}
use native.Mathlib.Nat.{zero-add, add_assoc}
use native.Mathlib.Omega.{arith}
use borrow.Author.Tests.{ltb-true, ltb-false, lt-ltb, le-ltb}
use lib.Dec.{eqb, ltb, leb}
use lib.ListN.{length, drop, length-take}
use Rattle.records.proofs.Cases.{split}
use Rattle.rules.specs.State.{State}
use Rattle.frames.specs.Lines.{newline, line_of, some, answer_to, state_after}
use Rattle.frames.specs.Stream.{held_of, FedSoFar, waits, past_byte, ended, fed, held_most}
use Rattle.frames.proofs.Cuts.{test}
use Rattle.frames.proofs.Streams.{held_more, held-short}

-- this text and so many bytes of the block first
abbrev pub onward : List ℕ → ℕ → FedSoFar → FedSoFar
onward text used r = record { text = text ++ r.text; used = used + r.used; state = r.state; held = r.held; full = r.full }

pub onward-none : (r : FedSoFar) → r ≡ onward [] 0 r
onward-none r = λ i. record { text = r.text; used = sym (zero-add r.used) i; state = r.state; held = r.held; full = r.full }

pub onward-onward : (a b : List ℕ) (m n : ℕ) (r : FedSoFar) → onward a m (onward b n r) ≡ onward (a ++ b) (m + n) r
onward-onward a b m n r =
    λ i. record { text = sym (append_assoc a b r.text) i; used = sym (add_assoc m n r.used) i; state = r.state; held = r.held; full = r.full }

-- the place behind the first line and the newline that closes it, if one does
abbrev pub past : List ℕ → ℕ
past block = min (length (line_of block) + 1) (length block)

-- whether the first line, with what is held of it, is at its end
abbrev pub is_ended : Bool → List ℕ → List ℕ → Bool
is_ended last held block = ltb (length (line_of block)) (length block) || (last && some (held ++ line_of block))

-- so many bytes are used, this is held, and nothing is answered
abbrev pub stops_at : State → List ℕ → ℕ → Bool → FedSoFar
stops_at s held used full = record { text = []; used = used; state = s; held = held; full = full }

-- ---- what is held, and whether there is anything of a line, one byte on

held_none : (held : List ℕ) → length held ≤ held_most → held_of (held ++ []) ≡ held
held_none held short = ap held_of (append-nil held) ∙ held-short held short

held_on : (held : List ℕ) (b : ℕ) (line : List ℕ) → held_of (held_of (held ++ (b ∷ [])) ++ line) ≡ held_of (held ++ b ∷ line)
held_on held b line = held_more (held ++ (b ∷ [])) line ∙ ap held_of (append_assoc held (b ∷ []) line)

some_on : (held : List ℕ) (b : ℕ) (line : List ℕ) → some (held_of (held ++ (b ∷ [])) ++ line) ≡ some (held ++ b ∷ line)
some_on [] b line = refl
some_on (x ∷ held) b line = refl

-- tests that say the same
pub ltb_alike : (a b c d : ℕ) → (a < b → c < d) → (b ≤ a → d ≤ c) → ltb a b ≡ ltb c d
ltb_alike a b c d less most =
    split (λ (t : Bool). t ≡ ltb c d) (ltb a b) (λ e. sym (lt-ltb c d (less (ltb-true a b e)))) (λ e. sym (le-ltb c d (most (ltb-false a b e))))

module _ (last : Bool) (room : ℕ) (s : State) where
  -- by whether a line is at its end, what is held of it, how many bytes it has, and what comes behind it, at which place
  abbrev pub by_parts : Bool → List ℕ → ℕ → ℕ → List ℕ → FedSoFar
  by_parts is-ended line n behind rest =
      cond is-ended
      (cond (leb (length (answer_to line s)) room)
      (onward (answer_to line s) behind (fed last (room - length (answer_to line s)) (state_after line s) [] rest))
      (stops_at s line n true))
      (stops_at s line n false)

  -- one more byte of the line
  past_parts : (is-ended : Bool) (line : List ℕ) (n behind : ℕ) (rest : List ℕ) →
      past_byte (by_parts is-ended line n behind rest) ≡ by_parts is-ended line (suc n) (suc behind) rest
  past_parts false line n behind rest = refl
  past_parts true line n behind rest =
      split (λ (fits : Bool). past_byte (cond fits onwards (stops_at s line n true)) ≡ cond fits later (stops_at s line (suc n) true))
      (leb (length (answer_to line s)) room)
      (λ _. λ i. record { text = later.text; used = sum i; state = later.state; held = later.held; full = later.full }) (λ _. refl)
    where
      r : FedSoFar
      r = fed last (room - length (answer_to line s)) (state_after line s) [] rest

      onwards : FedSoFar
      onwards = onward (answer_to line s) behind r

      later : FedSoFar
      later = onward (answer_to line s) (suc behind) r

      sum : suc (behind + r.used) ≡ suc behind + r.used
      sum = omega arith

  -- ---- the first line, by the first byte of the block

  at_end : (held : List ℕ) → fed last room s held [] ≡ by_parts (last && some held) held 0 0 []
  unfolding fed
  at_end held =
      split (λ (due : Bool). cond due (ended room s held none) (waits false s held) ≡ by_parts due held 0 0 []) (last && some held)
      (λ _.
      ap (λ (due : Bool). cond (leb (length (answer_to held s)) room) (onward (answer_to held s) 0 (cond due one_more none)) (waits true s held))
      (sym (and-false last)))
      (λ _. refl)
    where
      none : FedSoFar
      none = waits false (state_after held s) []

      -- what an empty line would make, which is none
      one_more : FedSoFar
      one_more = ended (room - length (answer_to held s)) (state_after held s) [] (waits false (state_after [] (state_after held s)) [])

  at_newline : (held block : List ℕ) →
      ended room s held (past_byte (fed last (room - length (answer_to held s)) (state_after held s) [] block)) ≡ by_parts true held 0 1 block
  at_newline held block = λ i. cond (leb (length (answer_to held s)) room)
      (record { text = answer_to held s ++ r.text; used = sum i; state = r.state; held = r.held; full = r.full })
      (waits true s held)
    where
      r : FedSoFar
      r = fed last (room - length (answer_to held s)) (state_after held s) [] block

      sum : suc r.used ≡ 1 + r.used
      sum = omega arith

  pub fed_line : (block held : List ℕ) → length held ≤ held_most →
      fed last room s held block
      ≡ by_parts (is_ended last held block) (held_of (held ++ line_of block)) (length (line_of block)) (past block) (drop (past block) block)
  unfolding fed line_of
  fed_line [] held short =
      at_end held ∙ (λ i. by_parts (last && some (sym (append-nil held) i)) (sym (held_none held short) i) 0 0 [])
  fed_line (b ∷ block) held short =
      test (eqb b newline)
      (λ e.
      let closed : ltb 0 (suc (length block)) ≡ true = lt-ltb 0 (suc (length block)) (omega arith) in
      let one : min 1 (suc (length block)) ≡ 1 = omega arith in
      rw e
      (at_newline held block
      ∙ (λ i. by_parts (sym closed i || (last && some (held ++ []))) (sym (held_none held short) i) 0 (sym one i) (drop (sym one i) (b ∷ block)))))
      (λ e.
      let held' : List ℕ = held_of (held ++ (b ∷ [])) in
      let line : List ℕ = line_of block in
      let inside : ltb (length line) (length block) ≡ ltb (suc (length line)) (suc (length block)) =
      ltb_alike (length line) (length block) (suc (length line)) (suc (length block)) (λ less. omega arith) (λ most. omega arith) in
      let one_more : suc (min (length line + 1) (length block)) ≡ min (suc (length line) + 1) (suc (length block)) = omega arith in
      rw e
      (ap past_byte (fed_line block held' (omega (arith, length-take held_most (held ++ (b ∷ [])))))
      ∙ past_parts (is_ended last held' block) (held_of (held' ++ line)) (length line) (past block) (drop (past block) block)
      ∙ (λ i.
      by_parts (inside i || (last && some_on held b line i)) (held_on held b line i) (suc (length line)) (one_more i) (drop (one_more i) (b ∷ block)))))
