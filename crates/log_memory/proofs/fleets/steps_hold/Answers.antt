use Rattle.log_memory.proofs.FleetSteps.{fresh_holds_all, apply_holds_all, compact_holds_all, begin_holds_all}
use Rattle.log_memory.proofs.FleetSteps.{copy_holds_all, same_holds_all}
use Rattle.log_memory.proofs.fleets.steps_hold.Goals as goal

pub returns : goal.returns
returns c = record {
  fresh = fresh_holds_all;
  applied = apply_holds_all;
  compacted = compact_holds_all;
  begun = begin_holds_all;
  copied = copy_holds_all;
  same = same_holds_all;
}
