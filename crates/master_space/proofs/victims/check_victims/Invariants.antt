use Rattle.std.proofs.Common.{◌≡◌, [], take, drop}
use Rattle.master_state.specs.Causes.{victim_fault}
use Rattle.master_space.proofs.victims.check_victims.Given as goal

abbrev pub invariant-loop-at : goal.invariant-loop-at
invariant-loop-at l =
    victim_fault l.core [] l.victims ≡ victim_fault l.core (take l.at l.victims) (drop l.at l.victims)
