-- `holder_on` meets its contract: the core's number, where there is such a core. Assumes nothing.
use Rattle.std.proofs.Common.{◌≡◌, ◌≤◌, sym, ◌∙◌, arith}
use Rattle.rules.specs.State.{none_byte, holder_of}
use Rattle.scheduler.specs.Scheduler.{abs}
use Rattle.scheduler.proofs.Arrays.{cores}
use Rattle.scheduler.proofs.OnCores.{none_held, holder_in_table}
use Rattle.scheduler.proofs.scheduler.QoSScheduler.holder_on.Goals as goal

pub returns-in_err-get-clause-holder : goal.returns-in_err-get-clause-holder
returns-in_err-get-clause-holder c =
    let past : 64 ≤ c.args.core = omega (arith, cores c.args.self.now, c.in_err-get.ensures.lookup.3) in
    c.from_residual.ensures ∙ sym (none_held c.args.self.now c.args.core past)

pub returns : goal.returns
unfolding abs
returns c =
    let is : c.holder_of.result ≡ holder_of (abs c.args.self.now) c.args.core = rw (sym (c.in_ok-get.ensures.lookup.3.1 none_byte)) c.holder_of.ensures in
    record { holder = is; in_table = holder_in_table c.args.self.now c.args.core _ is }
