-- What a master knows, its fleet apart.
use Rattle.std.specs.Prelude.{ℕ, List, [], Bool, false, Option, None}
use Rattle.cleaner.specs.declared.pass.Pass.{Pass}
use Rattle.entry.specs.declared.entry.Object.{Object}
use Rattle.images.specs.Image.{Image}
use Rattle.versioned_map.specs.declared.command.Record.{Record}
use Rattle.log_head.specs.log_laws.Heads.{Start}
use Rattle.log_head.specs.log_laws.HeadSteps.{first_start}
use Rattle.log_head.specs.Head.{HeadValue}
use Rattle.log_head.specs.Steps.{fresh_head}
use Rattle.master_state.specs.declared.config.Config.{Config}
use Rattle.master_state.specs.declared.failover.Failover.{Failover}
use Rattle.master_state.specs.declared.ledger.Posting.{Posting}
use Rattle.master_state.specs.declared.waiting.Waiting.{Waiting}
use Rattle.places.specs.Map.{Places}
use Rattle.places.specs.Relocation.{no_places}
use Rattle.places.specs.Secrets.{secret_seed}

-- What a master began its history with: objects that were loaded, the last one first, and a safe version.
pub record Origin : Type 0 where
  pub objects : List Object
  pub safe : ℕ

-- the origin of a new master: no objects
abbrev pub no_origin : Origin
no_origin = record { objects = []; safe = 1 }

pub record MasterData : Type 0 where
  pub config : Config
  pub head : HeadValue
  -- the images of the closed segments of the log, and those of the survivors of the open pass
  pub closed : List Image
  -- the least id that no segment of this master has had
  pub next : ℕ
  -- where the live objects lie: the places that the index holds
  pub index : Places
  -- the version that the next new key gets
  pub safe : ℕ
  pub history : List Record
  -- how many of the first records are forgotten: the master no longer holds them
  pub forgotten : ℕ
  -- the open pass
  pub pass : Option Pass
  -- victims of earlier passes, in the order in which their replicas are freed
  pub waiting : List Waiting
  -- the backups that failed, the last one first
  pub failed : List ℕ
  -- the failover that is open
  pub failover : Option Failover
  -- the master accepts no further step
  pub is_halted : Bool
  pub origin : Origin
  -- what the master's backups answered, the last answer first
  pub ledger : List Posting
  -- the heads that a roll was opening as the last failover began; empty again once that failover's new head is in force
  pub abandoned : List Start
  -- the bytes of the live objects
  pub live : ℕ

-- the data of a new master
abbrev pub fresh_data : Config → MasterData
fresh_data config = record {
  config = config;
  head = fresh_head config.master config.replicas (first_start config.format);
  closed = [];
  next = 2;
  index = no_places (secret_seed config.hasher.secret);
  safe = 1;
  history = [];
  forgotten = 0;
  pass = None;
  waiting = [];
  failed = [];
  failover = None;
  is_halted = false;
  origin = no_origin;
  ledger = [];
  abandoned = [];
  live = 0;
}
