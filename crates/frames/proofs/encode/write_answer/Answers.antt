-- `write_answer` meets its contract: status, pick and value, one behind the other. Assumes nothing.
use native.Mathlib.Omega.{arith}
use Rattle.frames.proofs.Sizes.{length-value_bytes, value_fits}
use Rattle.frames.proofs.Encodings.{answer-put}
use Rattle.frames.proofs.encode.write_answer.Goals as goal

pub overflow_add-result : goal.overflow_add-result
overflow_add-result c =
    record { fits = omega (arith, c.put_value.ensures.length_is, length-value_bytes c.args.answer.value, value_fits c.args.answer.value) }

pub returns : goal.returns
returns c =
    answer-put _ _ c.put_number.ensures c.status_number.ensures c.put_pick.ensures c.put_value.ensures
