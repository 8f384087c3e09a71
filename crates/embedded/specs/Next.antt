-- The number and the configuration of the next master.
use Rattle.std.specs.Prelude.{◌≡◌, ◌<◌, ◌≤◌, ℕ, max, List, [], ◌∷◌, None}
use Rattle.replica.specs.declared.holding.Holding.{Holding}
use Rattle.replica.specs.Picture.{FleetState}
use Rattle.recovery.specs.master.master_state.Config.{config_fault}
use Rattle.recovery.specs.master.master_state.declared.config.Config.{Config}
use Rattle.embedded.specs.Options.{config_of}
use Rattle.embedded.specs.declared.options.Options.{Options}

-- the greatest number of a master in an inventory, or 0
abbrev pub greatest_of : List Holding → ℕ
greatest_of [] = 0
greatest_of (h ∷ hs) = max h.master (greatest_of hs)

-- any head of the master may be used, and the fleet has enough backups
abbrev pub HasPlace : Config → FleetState → Type 0
HasPlace c f = (f.least c.master ≡ 0) × (c.backups ≤ f.backups)

-- A master of this configuration may begin over this fleet, but for replicas of its number.
pub record IsFit (c : Config) (f : FleetState) : Type 0 where
  pub checked : config_fault c ≡ None
  pub place : HasPlace c f

-- A master of this configuration may adopt a table over this fleet.
pub record MayAdopt (c : Config) (f : FleetState) : Type 0 where
  pub fit : IsFit c f
  pub none : (b s : ℕ) → f.picture b c.master s ≡ None

-- it may, its configuration is that of the options, and its number is above those that were used
pub record MayBegin (f : FleetState) (o : Options) (used : ℕ) (c : Config) : Type 0 where
  pub same : c ≡ config_of o c.master
  pub above : used < c.master
  pub may : MayAdopt c f
