-- `is_hex` meets its contract: a line of even length is tested digit by digit, and no other is digits. Assumes nothing.
use mathlib.Core.Path.{◌≡◌, ◌∙◌}
use mathlib.Core.Bool.{true}
use Prim.Native.Nat.{ℕ, ◌<◌}
use borrow.Author.Rules.{rules}
use borrow.Author.Tests.{ne_eqb}
use lib.ListN.{length, get_or}
use Rattle.std.specs.Bool.{Decides}
use Rattle.frames.specs.Hex.{is_digit}
use Rattle.frames.proofs.Digits.{is_hex_when, is_hex-odd}
use Rattle.frames.proofs.hex.is_hex.Goals as goal

pub returns-then-line-eq0 : goal.returns-then-line-eq0
returns-then-line-eq0 c =
    let each-is : Decides c.all.result ((k : ℕ) → k < length c.args.line.now → is_digit (get_or c.args.line.now k 0) ≡ true) = search rules in
    is_hex_when c.args.line.now c.all.result c.if-line-eq0.true each-is

pub returns-else-line-eq0 : goal.returns-else-line-eq0
returns-else-line-eq0 c = ne_eqb _ 0 c.if-line-eq0.false ∙ is_hex-odd c.args.line.now c.if-line-eq0.false
