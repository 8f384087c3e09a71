-- The configuration that options stand for.
use Rattle.std.specs.Prelude.{[], ℕ, zero, suc, ◌-◌, ◌^◌, List, ◌∷◌, ◌++◌}
use Rattle.entry.specs.declared.tablet.Tablet.{Tablet}
use Rattle.recovery.specs.master.master_state.declared.config.Config.{Config}
use Rattle.embedded.specs.declared.options.Options.{Options}
use Rattle.places.specs.Secrets.{fast_hasher}

-- a table as one tablet
abbrev pub whole_table : ℕ → Tablet
whole_table table = record { table = table; first = 0; last = 2 ^ 64 - 1 }

-- the tables from 1 to n
abbrev pub tables_to : ℕ → List Tablet
tables_to zero = []
tables_to (suc n) = tables_to n ++ whole_table (suc n) ∷ []

-- the configuration of a master with this number; it has no secret, so each run is the same
abbrev pub config_of : Options → ℕ → Config
config_of o master = record {
  master = master;
  backups = o.backups;
  replicas = o.replicas;
  step = o.step;
  segment = o.segment;
  seglet = o.seglet;
  seglets = o.seglets;
  tablets = tables_to o.tables;
  history = o.history;
  hasher = fast_hasher;
  format = o.format;
  largest = o.largest;
  most_live = o.live;
}
