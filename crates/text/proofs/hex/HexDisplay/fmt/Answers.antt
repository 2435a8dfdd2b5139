use Rattle.std.proofs.Common.{rules, arith, ◌<◌, ◌++◌, [], length, take, get_or, ap, sym, ◌∙◌, false}
use Rattle.std.proofs.Output.{has_written_append, has_written_of_eq}
use Rattle.std.proofs.lemmas.Fmt.{hex_byte}
use Rattle.std.proofs.lemmas.List.{flat_map_more, take_more}
use Rattle.text.specs.Printed.{two_digits, hex_text}
use Rattle.text.proofs.hex.HexDisplay.fmt.Goals as goal

pub loop-byte-preserved : goal.loop-byte-preserved
loop-byte-preserved g c plain =
    let i = c.loop-byte.byte-index in
    let bytes = c.args.self.now.0.now in
    let there : i < length bytes = omega arith in
    let fits : get_or bytes i 0 < 256 = search rules in
    has_written_of_eq _ _ _ _ _ (
    ap (λ t. hex_text (take i bytes) ++ t) (hex_byte false (get_or bytes i 0) fits)
    ∙ flat_map_more two_digits [] (take i bytes) (get_or bytes i 0)
    ∙ ap hex_text (sym (take_more bytes i 0 there))
    ) (has_written_append _ _ _ _ _ _ (c.loop-byte.invariant plain) (search rules))
