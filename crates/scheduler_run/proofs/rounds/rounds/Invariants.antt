-- Each count grows by one at most in a round.
use Rattle.std.proofs.Common.{◌≤◌}
use Rattle.scheduler_run.proofs.rounds.rounds.Given as goal

abbrev pub invariant-loop-round : goal.invariant-loop-round
invariant-loop-round g l = (l.blocks ≤ l._round) × (l.picks ≤ l._round) × (l.differences ≤ l._round)
