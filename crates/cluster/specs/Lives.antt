-- A master's life, and what a crash leaves of it.
use Rattle.std.specs.Prelude.{◌≡◌, ℕ, List, [], not, Bool, true, take, Option, None}
use Rattle.replica.specs.Picture.{FleetState, Shown, shown_of}
use Rattle.versioned_map.specs.declared.command.Record.{Record}
use Rattle.versioned_map.specs.Versioned.{State}
use Rattle.answers.specs.driving.master.master_state.declared.config.Config.{Config}
use Rattle.answers.specs.driving.master.master_state.Data.{MasterData}
use Rattle.answers.specs.driving.master.log_laws.Ids.{has}
use Rattle.answers.specs.driving.master.log_laws.Data.{homes}
use Rattle.answers.specs.driving.master.log_bytes.Choice.{newest_opened}
use Rattle.answers.specs.driving.master.master_state.Log.{log_of, opening_of}
use Rattle.answers.specs.driving.master.Valid.{IsValid}
use Rattle.answers.specs.recovery.Kept.{is_kept}

-- the state that a master began with, and its records
pub record Life : Type 0 where
  pub opening : State
  pub history : List Record

-- the life up to this many records
abbrev pub life_to : Life → ℕ → Life
life_to life count = record { opening = life.opening; history = take count life.history }

-- a master of this configuration, over this fleet, that has lived this life
pub record HasLived (config : Config) (life : Life) (d : MasterData) (f : FleetState) : Type 0 where
  pub configured : d.config ≡ config
  pub opening : opening_of d ≡ life.opening
  pub history : d.history ≡ life.history
  pub valid : IsValid d f

-- ---- what is left

-- What a recovery was shown of a master when it was dropped, the newest head that was opened on all its homes, the
-- homes of each segment (the backups that took it and haven't failed), and which backups have lost all they held
-- since.
pub record Left : Type 0 where
  pub shown : Shown
  pub opened : Option ℕ
  pub homes : ℕ → List ℕ
  pub lost : List ℕ

abbrev pub is_left : List ℕ → ℕ → Bool
is_left lost b = not (is_kept lost b)

-- what a master over this fleet leaves
abbrev pub left_now : MasterData → FleetState → Left
left_now d f = record {
  shown = shown_of f d.config.master;
  opened = newest_opened (log_of d);
  homes = homes (log_of d);
  lost = [];
}

-- a master that lived this life left this
abbrev pub IsLeftBy : Config → Life → Left → Type 0
IsLeftBy config life left =
    (d : MasterData) × (f : FleetState) × HasLived config life d f × (left ≡ left_now d f)

-- a master that lived this life left this, and its fleet took no more ops
abbrev pub IsLeftBySpent : Config → Life → Left → Type 0
IsLeftBySpent config life left =
    (d : MasterData) × (f : FleetState) × HasLived config life d f × (left ≡ left_now d f)
    × (f.takes ≡ f.end)

-- the backup was a home of the segment
abbrev pub IsHomeOf : Left → ℕ → ℕ → Type 0
IsHomeOf l s b = has (l.homes s) b ≡ true

-- ---- positions

-- where a script stands in the life of its master
pub record Position : Type 0 where
  -- how many records its lines have made
  pub made : ℕ
  -- how many of these are acknowledged, up to the last one that was answered; each recovery has to have them
  pub acknowledged : ℕ
  -- what is left of the master, if there is none now
  pub left : Option Left

-- at the start nothing is told, and there is a master
abbrev pub at_start : Position
at_start = record { made = 0; acknowledged = 0; left = None }
