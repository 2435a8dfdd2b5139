-- `put` meets its contract: what is kept of the piece has room. Assumes nothing.
use Rattle.std.proofs.Common.{◌≡◌, ◌+◌, ◌≤◌, ◌++◌, length, ap, ◌∙◌, arith, Result, Ok, Err, IsOk, OnOk}
use Rattle.std.proofs.lemmas.List.{length-take}
use Rattle.text.specs.Text.{line_room}
use Rattle.text.proofs.Pieces.{cut_piece}
use Rattle.text.proofs.line.Line.put.Goals as goal

at_ok : {T E P : Type 0} (r : Result T E) → IsOk r → OnOk r P → P
at_ok (Ok x) is p = p
at_ok (Err e) is p = cc

pub returns : goal.returns
returns c =
    let text = c.self.inside.text.items in
    let room = c.remaining_capacity.result in
    let places : room + length text ≡ line_room = c.remaining_capacity.ensures in
    let fits : length text + length c.front-kept.result.now ≤ line_room =
    omega (arith, places, ap length c.front-kept.ensures, length-take room c.args.bytes.now) in
    let put = c.try_extend_from_slice.ensures in
    rw (← c.self.view_is) (
    at_ok c.try_extend_from_slice.result (put.variant.1 fits) put.ok
    ∙ ap (λ kept. text ++ kept) c.front-kept.ensures
    ∙ cut_piece text c.args.bytes.now room places
    )
