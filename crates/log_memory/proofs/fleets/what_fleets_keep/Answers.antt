use Rattle.log_memory.proofs.KeptFleets.{kept_is_sound, kept_is_covered, kept_is_durable, others_leave_all}
use Rattle.log_memory.proofs.fleets.what_fleets_keep.Goals as goal

pub returns : goal.returns
returns c = record {
  sound = kept_is_sound;
  covered = kept_is_covered;
  durable = kept_is_durable;
  others = others_leave_all;
}
