-- What steps keep, whatever they answer. They make at most so many takes.
use Rattle.std.specs.Prelude.{◌≡◌, ℕ, ◌+◌, ◌≤◌, List, ◌++◌}
use Rattle.master_core.specs.log_laws.Data.{durable_of}
use Rattle.versioned_map.specs.declared.command.Record.{Record}
use Rattle.master_core.specs.master_state.Log.{log_of}
use Rattle.master.specs.World.{World}

pub record Keeps (most : ℕ) (old new : World) : Type 0 where
  pub config : new.knows.config ≡ old.knows.config
  pub origin : new.knows.origin ≡ old.knows.origin
  -- at most this many ops were taken
  pub takes : (old.fleet.takes ≤ new.fleet.takes) × (new.fleet.takes ≤ old.fleet.takes + most)
  -- no replica of another master changed
  pub others : (b m s : ℕ) → (m ≡ old.knows.config.master → ⊥) → new.fleet.picture b m s ≡ old.fleet.picture b m s
  -- no least head of another master is raised
  pub least : (m : ℕ) → (m ≡ old.knows.config.master → ⊥) → new.fleet.least m ≡ old.fleet.least m
  -- what was durable stays durable
  pub durable : durable_of (log_of old.knows) ≤ durable_of (log_of new.knows)
  -- what was forgotten stays so
  pub forgotten : old.knows.forgotten ≤ new.knows.forgotten
  -- the history only grows, at its end
  pub history : (more : List Record) × (new.knows.history ≡ old.knows.history ++ more)
