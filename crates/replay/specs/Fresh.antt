-- Objects that may be loaded.
use Rattle.std.specs.Prelude.{List}
use Rattle.entry.specs.declared.entry.Object.{Object}
use Rattle.entry.specs.Bag.{IsAmong}
use Rattle.driving.specs.master_core.master_state.Data.{MasterData}
use Rattle.driving.specs.master_core.master_state.Loading.{IsNewObject}
use Rattle.claims.specs.Listed.{AreOrdered}

-- Each key is there once and was not loaded before, and each version is below the safe one.
pub record AreNew (d : MasterData) (os : List Object) : Type 0 where
  pub ordered : AreOrdered os
  pub each : (o : Object) → IsAmong o os → IsNewObject d o
