-- `call_with` meets its contract: of a line of which nothing is held the call is read where it stands, and of any other once all of it is held.
-- Assumes nothing.
use mathlib.Core.List.{◌++◌}
use mathlib.Core.Path.{sym, ap, ◌∙◌}
use Prim.Native.Nat.{ℕ}
use lib.ListN.{take}
use Rattle.frames.specs.Lines.{line_call}
use Rattle.frames.specs.Stream.{held_bytes, held_of}
use Rattle.frames.proofs.Streams.{call-held}
use Rattle.frames.proofs.held.Held.call_with.Goals as goal

pub returns-then-self-eq0 : goal.returns-then-self-eq0
unfolding held_bytes
returns-then-self-eq0 c =
    let h = c.args.self.now in
    let more = c.args.more.now in
    c.read_line.ensures ∙ sym (call-held more) ∙ sym (ap (λ (n : ℕ). line_call (held_of (take n h.bytes ++ more))) c.if-self-eq0.true)

pub returns : goal.returns
unfolding held_bytes
returns c = c.read_line-2.ensures ∙ ap line_call c.hold.ensures
