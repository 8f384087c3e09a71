use Rattle.log_memory.proofs.LoadedObjects.{load_keeps}
use Rattle.log_memory.proofs.Loading.{same_is_loading, finish_is_intact}
use Rattle.log_memory.proofs.LoadingBegins.{restored_is_loading}
use Rattle.log_memory.proofs.LoadingFails.{loading_fails, loading_mends}
use Rattle.log_memory.proofs.LoadingOps.{loading_op_keeps, loading_op_fits}
use Rattle.log_memory.proofs.LoadingRepairs.{loading_repair_keeps, loading_repair_fits}
use Rattle.log_memory.proofs.LoadingRolls.{loading_roll_keeps, loading_end_keeps}
use Rattle.log_memory.proofs.laws.loading_keeps.Goals as goal

pub returns : goal.returns
returns c = record {
  restored = restored_is_loading;
  loads = load_keeps;
  ops = loading_op_keeps;
  fits = loading_op_fits;
  repairs = loading_repair_keeps;
  repairs_fit = loading_repair_fits;
  fails = loading_fails;
  mends = loading_mends;
  rolls = loading_roll_keeps;
  ends = loading_end_keeps;
  same = same_is_loading;
  finishes = finish_is_intact;
}
