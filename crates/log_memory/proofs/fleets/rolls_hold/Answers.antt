use Rattle.log_memory.proofs.FleetSteps.{roll_holds_all, commit_holds_all, end_holds_all, finish_holds_all}
use Rattle.log_memory.proofs.FleetSteps.{mend_holds_all}
use Rattle.log_memory.proofs.fleets.rolls_hold.Goals as goal

pub returns : goal.returns
returns c = record {
  rolls = roll_holds_all;
  commits = commit_holds_all;
  ends = end_holds_all;
  finishes = finish_holds_all;
  mends = mend_holds_all;
}
