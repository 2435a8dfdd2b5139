-- `frame_on_image` meets its contract: a law for each way out. Assumes nothing.
use mathlib.Core.Path.{sym}
use native.Mathlib.Omega.{arith}
use Rattle.std.proofs.lemmas.Result.{err_from_is_err_and}
use Rattle.frames.proofs.Hosting.{step_short, step_none, step_refused, step_call_refused, step_answered}
use Rattle.frames.proofs.Sizes.{answer-fits}
use Rattle.frames.proofs.host.frame_on_image.Goals as goal

pub returns-then-answer-lt-ANSWER_MAX-clause-host : goal.returns-then-answer-lt-ANSWER_MAX-clause-host
returns-then-answer-lt-ANSWER_MAX-clause-host c = step_short _ _ _ c.if-answer-lt-ANSWER_MAX.true

pub returns-in_err-check_image-clause-host : goal.returns-in_err-check_image-clause-host
returns-in_err-check_image-clause-host c =
    let p = err_from_is_err_and c.from_residual.result c.from_residual.ensures.1 in
    rw (p.1, p.2) (step_refused _ _ _ c.if-answer-lt-ANSWER_MAX.false (sym c.in_err-check_image.ensures))

pub returns-in_default-clause-host : goal.returns-in_default-clause-host
returns-in_default-clause-host c =
    step_none _ _ _ c.if-answer-lt-ANSWER_MAX.false (sym c.in_ok-check_image.ensures) (sym c.in_default.ensures)

pub returns-in_err-call_on_image-clause-host : goal.returns-in_err-call_on_image-clause-host
returns-in_err-call_on_image-clause-host c =
    let p = err_from_is_err_and c.from_residual-in_err-call_on_image.result c.from_residual-in_err-call_on_image.ensures.1 in
    rw (p.1, p.2) (step_call_refused _ _ _ c.if-answer-lt-ANSWER_MAX.false (sym c.in-Some.ensures) c.in_err-call_on_image.ensures)

pub returns-clause-host : goal.returns-clause-host
returns-clause-host c =
    step_answered _ _ _ c.if-answer-lt-ANSWER_MAX.false (sym c.in-Some.ensures) c.in_ok-call_on_image.ensures c.write_answer.ensures

pub returns-clause-length : goal.returns-clause-length
returns-clause-length c = omega (arith, c.write_answer.ensures.length_is, answer-fits c.in_ok-call_on_image.field-0)
