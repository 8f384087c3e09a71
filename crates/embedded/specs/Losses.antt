-- Why a recovery finds no table.
use Rattle.std.specs.Prelude.{ℕ, List}
use Rattle.replica.specs.Picture.{AreHeld, FleetState}
use Rattle.replica.specs.declared.holding.Holding.{Holding}
use Rattle.tablet_will.specs.declared.part.Part.{Part}
use Rattle.recovery.specs.Orders.{Covers}
use Rattle.recovery.specs.Recovered.{IsSomeLoss}
use Rattle.recovery.specs.declared.recovery.RecoveryFault.{RecoveryFault}
use Rattle.recovery.specs.replay.rebuilding.declared.order.GroupOrder.TheVariants.{Forward}
use Rattle.embedded.specs.Options.{tables_to}
use Rattle.embedded.specs.declared.options.Options.{Options}
use Rattle.embedded.specs.declared.rescue.NotRecovered.{NotRecovered}
use Rattle.embedded.specs.declared.rescue.NotRecovered.TheVariants as why

-- No table was found of what these backups hold of the master, for this reason, though each key of the tables was
-- looked for. Whatever that master was: if it was valid and served these tables, and some of its backups were lost
-- since, the fault names a head or a segment that is lost, or memory ran out.
pub record IsNotFound (f : FleetState) (o : Options) (master : ℕ) (fault : RecoveryFault) : Type 0 where
  pub inventory : List Holding
  pub held : AreHeld inventory f.picture
  pub will : List Part
  pub covers : Covers (tables_to o.tables) will
  pub loss : IsSomeLoss inventory (f.least master) master will Forward fault

-- a recovery that is refused as one that found no table didn't find one
abbrev pub IsWhy : FleetState → Options → ℕ → NotRecovered → Type 0
IsWhy f o master (why.NotRebuilt fault) = IsNotFound f o master fault
IsWhy f o master _ = Unit {0}

-- the refusal doesn't say that no table was found
abbrev pub IsNoLoss : NotRecovered → Type 0
IsNoLoss (why.NotRebuilt fault) = ⊥
IsNoLoss _ = Unit {0}
