-- `put_all` meets its contract: what a store through a part of the buffer leaves is the bytes stored from `at` on. Assumes nothing.
use native.Mathlib.Omega.{arith}
use Rattle.frames.proofs.Stores.{put_part}
use Rattle.frames.proofs.bytes.put_all.Goals as goal

pub returns : goal.returns
returns c = put_part c.args.out.now c.args.at c.args.bytes.now (omega arith) (omega arith) c.copy_from_slice.ensures.after
