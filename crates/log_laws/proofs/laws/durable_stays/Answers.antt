use Rattle.log_laws.proofs.DurableSteps.{durable_stays, durable_is_within}
use Rattle.log_laws.proofs.PastHeads.{fresh_is_past, adopted_is_past}
use Rattle.log_laws.proofs.laws.durable_stays.Goals as goal

pub returns : goal.returns
returns c = record {
  fresh = fresh_is_past;
  adopted = adopted_is_past;
  stays = durable_stays;
  within = durable_is_within;
}
