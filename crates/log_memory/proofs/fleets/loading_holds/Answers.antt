use Rattle.log_memory.proofs.LoadingFleets.{restored_holds_loading, load_holds_loading, ok_holds_loading}
use Rattle.log_memory.proofs.LoadingFleets.{loading_is_never_wrong, roll_holds_loading, end_holds_loading}
use Rattle.log_memory.proofs.LoadingFleets.{repair_holds_loading, repair_is_never_wrong, fault_fails_loading}
use Rattle.log_memory.proofs.LoadingFleets.{mend_holds_loading}
use Rattle.log_memory.proofs.LoadingFleets.{same_holds_loading, finished_holds_all}
use Rattle.log_memory.proofs.fleets.loading_holds.Goals as goal

pub returns : goal.returns
returns c = record {
  restored = restored_holds_loading;
  loads = load_holds_loading;
  ok = ok_holds_loading;
  right = loading_is_never_wrong;
  repairs = repair_holds_loading;
  right_repairs = repair_is_never_wrong;
  fails = fault_fails_loading;
  mends = mend_holds_loading;
  rolls = roll_holds_loading;
  ends = end_holds_loading;
  same = same_holds_loading;
  finished = finished_holds_all;
}
