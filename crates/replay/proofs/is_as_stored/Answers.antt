-- `is_as_stored` meets its contract: `all` over the pairs of bytes tells whether each fits. Assumes nothing.
use Rattle.std.proofs.Common.{rules, tests, ◌≡◌, ◌&&◌, Bool, true, length, eqb, ap, sym, ◌∙◌, eq-eqb}
use Rattle.std.specs.List.{list_all, zip}
use Rattle.std.proofs.lemmas.Iterator.{YieldsList-from_slice, YieldsList-from_zip}
use Rattle.std.proofs.lemmas.Iterator.Search.{all_from_yields_List}
use Rattle.replay.specs.Comparing.{fits}
use Rattle.replay.proofs.is_as_stored.Goals as goal

pub returns-then-answer-stored : goal.returns-then-answer-stored
returns-then-answer-stored c =
    let answer = c.args.answer.now in
    let stored = c.args.stored.now in
    let same : eqb (length answer) (length stored) ≡ true = eq-eqb _ _ c.if-answer-stored.true in
    let alike : c.all.result ≡ list_all (λ p. fits p.0 p.1) (zip answer stored) =
    all_from_yields_List (λ p. fits p.0 p.1) c.all.new.self _ c.all.result c.all.ensures.ran
    (YieldsList-from_zip (YieldsList-from_slice answer (cc)) (YieldsList-from_slice stored (cc)))
    (λ x b q k. search (rules, tests)) in
    alike ∙ sym (ap (λ (t : Bool). t && list_all (λ p. fits p.0 p.1) (zip answer stored)) same)
