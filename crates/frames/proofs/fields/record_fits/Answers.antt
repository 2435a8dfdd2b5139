-- `record_fits` meets its contract: the tests one after the other, each made where those before it passed. Assumes nothing.
use Rattle.std.proofs.Common.{◌≡◌, refl, ◌∙◌}
use Rattle.frames.proofs.Passing.{passed_on, failed_on}
use Rattle.frames.proofs.RecordBytes.{codes_use, codes_mask, codes_budget, use_tested, mask_tested, budget_tested, consumed_tested, record_tested}
use Rattle.frames.proofs.fields.record_fits.Goals as goal
use Rattle.frames.proofs.fields.record_fits.Goals.{Joined-number-ne0}
use Rattle.frames.proofs.fields.record_fits.Goals.{then-codes_fit, else-codes_fit}
use Rattle.frames.proofs.fields.record_fits.Goals.{then-is_in_use-is_in, else-is_in_use-is_in}
use Rattle.frames.proofs.fields.record_fits.Goals.{then-number-ne0, else-number-ne0}

-- the tests up to the budget's
three : (c : Joined-number-ne0) → c.if-number-ne0.value ≡ codes_budget c.args.bytes.now
three c =
    let b = c.args.bytes.now in
    let first : c.if-codes_fit.value ≡ codes_use b = elim c.if-codes_fit.branch [
      | then-codes_fit w ↦ passed_on c.codes_fit.ensures w.if-codes_fit.true (use_tested b w.value-is w.is_in_use.ensures w.is_in.ensures)
      | else-codes_fit w ↦ failed_on c.codes_fit.ensures _ w.if-codes_fit.false w.value-is
    ] in
    let second : c.if-is_in_use-is_in.value ≡ codes_mask b = elim c.if-is_in_use-is_in.branch [
      | then-is_in_use-is_in w ↦ passed_on first w.if-is_in_use-is_in.true (mask_tested b w.value-is w.number.ensures)
      | else-is_in_use-is_in w ↦ failed_on first _ w.if-is_in_use-is_in.false w.value-is
    ] in
    elim c.if-number-ne0.branch [
      | then-number-ne0 w ↦ passed_on second w.if-number-ne0.true
          (budget_tested b (w.value-is ∙ w.budget_fits.ensures) w.number-then-number-ne0.ensures c.slice_in-slice.ensures)
      | else-number-ne0 w ↦ failed_on second _ w.if-number-ne0.false w.value-is
    ]

pub returns-then-budget_fits : goal.returns-then-budget_fits
returns-then-budget_fits c =
    let b = c.args.bytes.now in
    record_tested b
    (passed_on (three (goal.at.returns-then-budget_fits c).Joined-number-ne0) c.if-budget_fits.true
    (consumed_tested b c.number-then-budget_fits.ensures c.slice_in-slice.ensures))

pub returns-else-budget_fits : goal.returns-else-budget_fits
returns-else-budget_fits c =
    record_tested c.args.bytes.now (failed_on (three (goal.at.returns-else-budget_fits c).Joined-number-ne0) _ c.if-budget_fits.false refl)
