use Rattle.log_laws.proofs.Holding.{replicas_are_texts, homes_hold_copies, kept_is_replicated}
use Rattle.log_laws.proofs.Soundness.{kept_is_sound}
use Rattle.log_laws.proofs.laws.failing_log_kept.Goals as goal

pub returns : goal.returns
returns c = record {
  sound = kept_is_sound;
  texts = replicas_are_texts;
  copies = homes_hold_copies;
  replicated = kept_is_replicated;
}
