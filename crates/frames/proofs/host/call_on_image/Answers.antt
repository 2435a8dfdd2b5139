-- `call_on_image` meets its contract: a refused image stays as it is, and else the call is done. Assumes nothing.
use mathlib.Core.Path.{sym}
use Rattle.std.proofs.lemmas.Result.{err_from_is_err_and}
use Rattle.frames.proofs.Hosting.{called_refused, called_done}
use Rattle.frames.proofs.Statuses.{status_says}
use Rattle.frames.proofs.host.call_on_image.Goals as goal

pub returns-in_err-check_image : goal.returns-in_err-check_image
returns-in_err-check_image c =
    let p = err_from_is_err_and c.from_residual.result c.from_residual.ensures.1 in
    rw (p.1, p.2) (called_refused c.args.call (sym c.in_err-check_image.ensures))

pub call_on_accepted-requires : goal.call_on_accepted-requires
call_on_accepted-requires c = status_says c.args.image.now (sym c.in_ok-check_image.ensures)

pub returns : goal.returns
returns c = called_done c.args.call (sym c.in_ok-check_image.ensures) c.call_on_accepted.ensures
