-- What a line adds to the counts, by what kind of line it is. Assumes nothing.
use Rattle.std.proofs.Common.{◌≡◌, ℕ, Bool, true, false, cond, List, sym, refl, ap}
use Rattle.std.specs.Prelude.{None, Some}
use Rattle.replay.specs.declared.Counts.{Counts}
use Rattle.replay.specs.Comparing.{as_stored}
use Rattle.replay.specs.Tallies.{is_name, with_answer, with_list, with_line}

module _ (line : List ℕ) (k : Counts) where
  pub an_answer_lem : (answer : List ℕ) → with_answer (as_stored answer line) k ≡ with_line (Some answer) line k
  an_answer_lem answer = refl

  pub a_name_lem : is_name line ≡ true → with_list k ≡ with_line None line k
  a_name_lem is = ap (λ (t : Bool). cond t (with_list k) k) (sym is)

  pub a_frame_lem : is_name line ≡ false → k ≡ with_line None line k
  a_frame_lem is = ap (λ (t : Bool). cond t (with_list k) k) (sym is)
