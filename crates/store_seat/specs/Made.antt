-- What a store was made of.
use Rattle.std.specs.Prelude.{ℕ, List, []}
use Rattle.versioned_map.specs.declared.command.Record.{Record}
use Rattle.master_core.specs.master_state.declared.config.Config.{Config}
use Rattle.master_core.specs.master_state.Data.{Origin, no_origin}
use Rattle.places.specs.Secrets.{fast_hasher}

-- What a store was made of: the number of its seats, the configuration of its master, what the history began with,
-- which records it had then and how many of them were durable, and the least heads of the fleet then.
pub record Made : Type 0 where
  pub seats : ℕ
  pub config : Config
  pub origin : Origin
  pub begun : List Record
  pub durable : ℕ
  pub least : ℕ → ℕ

-- the value for a name that is no store's
abbrev pub nobody : Made
nobody = record {
  seats = 0;
  config = record {
    master = 0;
    backups = 0;
    replicas = 0;
    step = 0;
    segment = 0;
    seglet = 0;
    seglets = 0;
    tablets = [];
    history = 0;
    hasher = fast_hasher;
    format = 1;
    largest = 0;
    most_live = 0;
  };
  origin = no_origin;
  begun = [];
  durable = 0;
  least = λ master. 0;
}
