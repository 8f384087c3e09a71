use Rattle.log_memory.proofs.Knowing.{fresh_knows, apply_knows, waiting_knows, begin_knows, roll_knows}
use Rattle.log_memory.proofs.Knowing.{commit_knows, end_knows, finish_knows, fail_knows, mend_knows}
use Rattle.log_memory.proofs.laws.knowing_stays.Goals as goal

pub returns : goal.returns
returns c = record {
  fresh = fresh_knows;
  applied = apply_knows;
  waiting = waiting_knows;
  begun = begin_knows;
  rolls = roll_knows;
  commits = commit_knows;
  ends = end_knows;
  finishes = finish_knows;
  fails = fail_knows;
  mends = mend_knows;
}
