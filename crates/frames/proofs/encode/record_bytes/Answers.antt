-- `record_bytes` meets its contract: ten numbers, one behind the other, take all of the 47 bytes. Assumes nothing.
use mathlib.Core.Path.{refl, ◌∙◌}
use Rattle.frames.specs.Answer.{record_bytes as bytes_of_record}
use Rattle.frames.proofs.Encodings.{flag_is}
use Rattle.frames.proofs.Runs.{run_on, run_end}
use Rattle.frames.proofs.Sizes.{length-record_bytes}
use Rattle.frames.proofs.Stores.{sets_all}
use Rattle.frames.proofs.encode.record_bytes.Goals as goal

pub returns : goal.returns
unfolding bytes_of_record
returns c =
    run_on _ _ 4 _ _ c.put_number.ensures c.from.ensures refl
    (run_on _ _ 1 _ _ c.put_number-2.ensures (c.from-2.ensures ∙ c.code.ensures.is) refl
    (run_on _ _ 1 _ _ c.put_number-3.ensures (c.from-3.ensures ∙ c.code-2.ensures) refl
    (run_on _ _ 8 _ _ c.put_number-4.ensures refl refl
    (run_on _ _ 8 _ _ c.put_number-5.ensures refl refl
    (run_on _ _ 8 _ _ c.put_number-6.ensures refl refl
    (run_on _ _ 8 _ _ c.put_number-7.ensures refl refl
    (run_on _ _ 4 _ _ c.put_number-8.ensures c.from-4.ensures refl
    (run_on _ _ 4 _ _ c.put_number-9.ensures c.from-5.ensures refl
    (run_end _ _ 1 c.put_number-10.ensures (flag_is c.args.task.now.in_use c.from-6.ensures))))))))))
    ∙ sets_all _ _ (length-record_bytes c.args.task.now)
