-- What survives a master, and what is lost.
use Rattle.std.specs.Prelude.{◌≡◌, ◌⊎◌, ◌<◌, ℕ, Bool, length, None}
use Rattle.replica.specs.Picture.{FleetState, left_on}
use Rattle.recovery.specs.Headline.{IsLoss, IsNoMemory, NeverHadAny}
use Rattle.recovery.specs.Recovered.{IsRecovered}
use Rattle.recovery.specs.claims.declared.rebuilt.Rebuilt.{Rebuilt}
use Rattle.recovery.specs.declared.recovery.RecoveryFault.{RecoveryFault}
use Rattle.recovery.specs.master.Survive.{lost}
use Rattle.recovery.specs.master.Valid.{IsValid}
use Rattle.recovery.specs.master.master_state.Data.{MasterData}
use Rattle.recovery.specs.master.master_state.Log.{log_of, opening_of}
use Rattle.embedded.specs.Lives.{IsFound}
use Rattle.embedded.specs.Losses.{IsNotFound}
use Rattle.embedded.specs.Options.{tables_to}
use Rattle.embedded.specs.declared.options.Options.{Options}

-- of what this fleet held, these backups hold what they held, and the others nothing; the same heads may be used
pub record IsLeft (keep : ℕ → Bool) (old new : FleetState) : Type 0 where
  pub picture : new.picture ≡ left_on keep old.picture
  pub least : new.least ≡ old.least

-- A master was valid when it ended, and some of its backups were kept. Then a table that is found is the map after a
-- prefix of its commands, with each durable one.
abbrev pub WhatSurvives : Type 0
WhatSurvives = (d : MasterData) (f left : FleetState) (keep : ℕ → Bool) (table : Rebuilt) → IsValid d f
    → IsLeft keep f left → IsFound left d.config.master table → IsRecovered (log_of d) table

-- A master was valid when it ended, it served the tables of these options, and some of its backups were kept. If no
-- table is found, a head or a segment is lost, and the fault names it, or memory ran out. If no failover was open, and
-- fewer backups were lost than a segment has replicas, memory ran out, or no key ever had a value.
abbrev pub WhatIsLost : Type 0
WhatIsLost = (d : MasterData) (f left : FleetState) (keep : ℕ → Bool) (o : Options) (fault : RecoveryFault)
    → IsValid d f → d.config.tablets ≡ tables_to o.tables → IsLeft keep f left
    → IsNotFound left o d.config.master fault
    → (IsLoss fault ⊎ IsNoMemory fault)
    × (d.failover ≡ None → length (lost keep d.config.backups) < d.config.replicas
    → IsNoMemory fault ⊎ NeverHadAny (opening_of d) d.history)
