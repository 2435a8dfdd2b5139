-- `read_line` meets its contract: a byte that is no newline goes behind others, and so does the last one that has room. Assumes nothing.
use Rattle.std.proofs.Common.{rules, arith, ◌≤◌, ℕ, List, length, take, subst, sym, ◌∙◌, take_all}
use Rattle.std.specs.Prelude.{◌≢◌, All}
use Rattle.std.proofs.lemmas.List.{take_more_set}
use Rattle.std.proofs.lemmas.List.Elements.{All-push, All-take}
use Rattle.text.proofs.input.Input.read_line.Goals as goal

abbrev NoNewline : List ℕ → Type 0
NoNewline = All (λ b. b ≢ 10)

pub loop-n-preserved : goal.loop-n-preserved
loop-n-preserved g c =
    let line = c.loop-n.line in
    let n = c.loop-n.n in
    let byte = c.in-Some.byte in (
      search rules,
      subst NoNewline (sym (take_more_set line n byte (omega (arith, c.loop-n.invariant.0, c.loop-n-test.true))))
          (All-push (λ b. b ≢ 10) (take n line) byte c.loop-n.invariant.1 (search rules)),
    )

pub returns-clause-stops : goal.returns-clause-stops
returns-clause-stops g c =
    let line = c.loop-n.line in
    let past : length line ≤ c.loop-n.n = omega (arith, c.loop-n.invariant.0, c.loop-n-test.false) in
    let none = subst NoNewline (take_all c.loop-n.n line past ∙ sym (take_all (length line) line (omega arith))) c.loop-n.invariant.1 in
    All-take (λ b. b ≢ 10) _ _ none
