-- What is told and shown of the memory that a new master needs.
use Rattle.std.proofs.Common.{◌≡◌, ℕ, refl}
use Rattle.std.specs.Prelude.{Option, Some, None, IfSome}
use Rattle.backup.specs.declared.fleet.MemoryFleet.{MemoryFleet}
use Rattle.command_line.specs.declared.settings.Options.{Options}
use Rattle.lines.specs.Grammar.{Needs}
use Rattle.replica.specs.Picture.{FleetState}
use Rattle.cluster.specs.answers.declared.answer.Answer.{Answer}
use Rattle.cluster.specs.answers.declared.answer.Answer.TheVariants as answer
use Rattle.cluster.specs.master.master_state.declared.config.Config.{Config}
use Rattle.cluster.specs.master.master_state.Data.{MasterData}
use Rattle.cluster.specs.replay.Needs.{IsNeeded, NoneIsEnough}
use Rattle.cluster.specs.replay.claims.declared.rebuilt.Rebuilt.{Rebuilt}
use Rattle.cluster.specs.declared.node.Node.TheVariants.{Down}
use Rattle.cluster.specs.Lives.{Position}
use Rattle.cluster.specs.Served.{IsNodeAt, life_of}
use Rattle.cluster.specs.Told.{Tells}
use Rattle.cluster.specs.Found.{NeedsFor}
use Rattle.next_master.specs.Configuration.{config_of}
use Rattle.next_master.specs.declared.later.Later.{Later}
use Rattle.next_master.specs.Recoveries.{Asked, FindsNothing, IsFoundIn, NeedsOn}
use Rattle.next_master.proofs.NextConfig.{next_config_is}

-- a number that is enough and least, or none if none is enough
pub needs_for : (config : Config) (r : Rebuilt) (needed : Option ℕ)
    → IfSome needed (λ (n : ℕ). IsNeeded config r.objects n) → (needed ≡ None → NoneIsEnough config r.objects)
    → NeedsFor config r needed
needs_for config r (Some n) enough none = enough
needs_for config r None enough none = none refl

-- what a table that is found needs is told of the life that ended
pub needs_told : (fleet : MemoryFleet) (options : Options) (later : Later) (master : ℕ) (r : Rebuilt) (config : Config)
    → IsFoundIn fleet options later master r config → (needed : Option ℕ) → NeedsFor config r needed
    → (d : MasterData) (at : Position) → IsNodeAt (Down fleet) (config_of options master) d at
    → Tells (config_of options master) (life_of d) at Needs (answer.Needs needed) at
needs_told fleet options later master r config found needed needs d at s =
    let table = found.table d at s in (
      refl,
      table.0,
      table.1,
      (r, table.2, config, next_config_is later options master config found.configured found.greater, needs),
      refl,
    )

-- why no table is found
pub nothing_needs : (f : FleetState) (options : Options) (a : Asked) (x : Answer) → FindsNothing f a x
    → NeedsOn f options a x
nothing_needs f options a (answer.NotRecovered why) nothing = nothing
nothing_needs f options a answer.NumbersSpent nothing = nothing
nothing_needs f options a x nothing = absurd nothing
