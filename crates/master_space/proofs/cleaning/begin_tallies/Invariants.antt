use Rattle.master_space.proofs.BegunTallies.{BegunBefore}
use Rattle.master_space.proofs.cleaning.begin_tallies.Given as goal

abbrev pub invariant-loop-at : goal.invariant-loop-at
invariant-loop-at l = BegunBefore l.survivors.first l.at l.fn.tallies l.tallies
