-- `next_line` meets its contract: the input from `at` on, up to the first newline in it. Assumes nothing.
use mathlib.Core.Path.{ap, ◌∙◌}
use borrow.Author.Rules.{rules}
use borrow.Author.Tests.{tests}
use Rattle.std.proofs.lemmas.Iterator.{YieldsList-from_slice}
use Rattle.std.proofs.lemmas.Iterator.Search.{position_from_yields_List}
use Rattle.frames.specs.Lines.{line_of}
use Rattle.frames.proofs.Cuts.{is_newline, line_cut}
use Rattle.frames.proofs.lines.next_line.Goals as goal

pub returns : goal.returns
returns c =
    line_cut c.behind-rest.result.now c.position-end.result
    (position_from_yields_List {all = c.behind-rest.result.now} is_newline _ _ c.position-end.result c.position-end.ensures.ran (YieldsList-from_slice _ cc) (λ x b q k. search (rules, tests)))
    c.unwrap_or.ensures
    ∙ ap line_of c.behind-rest.ensures
