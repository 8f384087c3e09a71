use Rattle.std.proofs.Common.{◌≡◌}
use Rattle.tally.proofs.Fronts.{staled_front}
use Rattle.tally.proofs.placing.stale.Given as goal

abbrev pub invariant-loop-row : goal.invariant-loop-row
invariant-loop-row l = l.rows ≡ staled_front l.fn.rows l.row-index
