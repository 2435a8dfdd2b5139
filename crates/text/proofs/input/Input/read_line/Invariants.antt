-- `read_line` meets its contract: the bytes so far are no newlines. Assumes nothing.
use Rattle.std.proofs.Common.{◌≡◌, length, take}
use Rattle.std.specs.Prelude.{◌≢◌, All}
use Rattle.text.proofs.input.Input.read_line.Given as goal

abbrev pub invariant-loop-n : goal.invariant-loop-n
invariant-loop-n g l = (length l.line ≡ length l.initial.line) × All (λ b. b ≢ 10) (take l.n l.line)
