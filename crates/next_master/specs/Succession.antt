-- Lives that follow one another. A recovery ends a life, and the next begins with the table that was recovered.
use Rattle.std.specs.Prelude.{◌≡◌, ℕ, length, Some, None}
use Rattle.replica.specs.Picture.{FleetState}
use Rattle.replica.specs.declared.op.TakeFault.TheVariants as take_fault
use Rattle.entry.specs.Meaning.{contents_of}
use Rattle.lines.specs.Grammar.{LineValue}
use Rattle.versioned_map.specs.History.{IsLegal}
use Rattle.versioned_map.specs.Versioned.{State}
use Rattle.cluster.specs.master.master_state.declared.config.Config.{Config}
use Rattle.cluster.specs.master.master_state.Data.{MasterData}
use Rattle.cluster.specs.replay.claims.declared.rebuilt.Rebuilt.{Rebuilt}
use Rattle.cluster.specs.answers.declared.answer.Answer.{Answer}
use Rattle.cluster.specs.answers.declared.answer.Answer.TheVariants as answer
use Rattle.cluster.specs.Lives.{Life, life_to, HasLived, Left, IsLeftBy, IsLeftBySpent, Position}
use Rattle.cluster.specs.Found.{IsFoundAt, IsNextConfig, IsRecover}

-- where a script stands: its master's configuration, the life of that master, and where it stands in this life
pub record Standing : Type 0 where
  pub config : Config
  pub life : Life
  pub at : Position

-- ---- from one life to the next

-- all records of the life are told, and their replies are the versioned map's
pub record IsTold (s : Standing) : Type 0 where
  pub legal : IsLegal s.life.opening s.life.history
  pub whole : s.at.made ≡ length s.life.history

-- the state that a table stands for
abbrev pub state_of_table : Rebuilt → State
state_of_table r = record { contents = contents_of r.objects; safe = r.safe }

-- a master that has lived this life is the only one that this fleet holds replicas of
abbrev pub IsAloneAt : Config → Life → FleetState → Type 0
IsAloneAt config life f = (d : MasterData) × HasLived config life d f
    × ((b m s : ℕ) → (m ≡ config.master → ⊥) → f.picture b m s ≡ None)

-- How a recovery ended whose table was adopted, and which left this fleet. Either the new master is there, and the
-- replicas of all others are freed, or the freeing was cut short, by the limit or by a fault, and the new master was
-- dropped.
abbrev pub EndsRecovery : Standing → FleetState → Rebuilt → Answer → Type 0
EndsRecovery to f table (answer.Recovered r) =
    (r ≡ table) × (to.at.left ≡ None) × IsAloneAt to.config (life_to to.life 0) f
EndsRecovery to f table answer.Stopped =
    (l : Left) × (to.at.left ≡ Some l) × IsLeftBySpent to.config (life_to to.life 0) l
EndsRecovery to f table (answer.NotRetired fault) = (fault ≡ take_fault.Spent → ⊥)
    × (l : Left) × (to.at.left ≡ Some l) × IsLeftBy to.config (life_to to.life 0) l
EndsRecovery to f table _ = ⊥

-- A recovery ended a life, of which all is told. A table was found of what was left, with each acknowledged record.
-- The next life begins with this table, as that of a master with a greater number, and nothing is told of it yet.
pub record Succeeds (from : Standing) (line : LineValue) (answer : Answer) (to : Standing) : Type 0 where
  pub asks : IsRecover line
  pub told : IsTold from
  pub left : Left
  pub was : from.at.left ≡ Some left
  pub table : Rebuilt
  pub found : IsFoundAt from.config from.life from.at left table
  pub config : IsNextConfig from.config to.config
  pub opening : to.life.opening ≡ state_of_table table
  pub made : to.at.made ≡ 0
  pub acknowledged : to.at.acknowledged ≡ 0
  -- the fleet after the recovery
  pub fleet : FleetState
  pub ends : EndsRecovery to fleet table answer
