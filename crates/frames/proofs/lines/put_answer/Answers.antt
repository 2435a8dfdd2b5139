-- `put_answer` meets its contract: the answer's bytes are made first, and stored as a line. Assumes nothing.
use mathlib.Core.Path.{refl}
use Rattle.frames.proofs.LinePuts.{put_as, put_inside, put_length}
use Rattle.frames.proofs.lines.put_answer.Goals as goal

pub slice_bounds-bytes-end : goal.slice_bounds-bytes-end
slice_bounds-bytes-end c = put_inside _ c.write_answer-n.ensures refl

pub slice_bounds-put_line-end : goal.slice_bounds-put_line-end
slice_bounds-put_line-end c = put_length _ c.write_answer-n.ensures refl

pub returns : goal.returns
returns c = put_as _ c.write_answer-n.ensures refl c.put_line.ensures
