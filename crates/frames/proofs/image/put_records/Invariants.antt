-- `put_records` meets its contract. The loop's invariant: the records that are left, stored behind those that are done, give what is asked for.
-- Assumes nothing.
use mathlib.Core.Path.{◌≡◌}
use Prim.Native.Nat.{◌*◌}
use lib.ListN.{drop}
use lib.Seq.{sets}
use Rattle.frames.specs.Image.{record_length, records_bytes}
use Rattle.frames.proofs.image.put_records.Given as goal

abbrev pub invariant-loop-slot : goal.invariant-loop-slot
invariant-loop-slot l = sets l.out (record_length * l.slot) (records_bytes (drop l.slot l.tasks)) ≡ sets l.initial.out 0 (records_bytes l.tasks)
