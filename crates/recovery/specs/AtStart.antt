-- A master as the headline sees it before the first step.
use Rattle.replay.specs.master.master_state.Log.{opening_of}
use Rattle.replay.specs.master.World.{World}
use Rattle.recovery.specs.Headline.{MasterAtStart}

abbrev pub at_start : World → MasterAtStart
at_start w = record {
  master = w.knows.config.master;
  backups = w.knows.config.backups;
  replicas = w.knows.config.replicas;
  tablets = w.knows.config.tablets;
  opening = opening_of w.knows;
  history = w.knows.history;
  fleet = w.fleet;
}
