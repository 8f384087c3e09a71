-- What the calls of a store make of its master and its backups.
use Rattle.std.specs.Prelude.{◌≡◌, ◌⊎◌, ◌<◌, ◌≤◌, ℕ, List, [], length, Bool, true, false, Option, Some, None}
use Rattle.std.specs.Prelude.{Result, Ok, Err}
use Rattle.entry.specs.Key.{IsKeyBytes}
use Rattle.entry.specs.Limits.{IsValue}
use Rattle.entry.specs.declared.key.Key.{Key}
use Rattle.backup.specs.State.{fleet_state, lost}
use Rattle.backup.specs.declared.fleet.MemoryFleet.{MemoryFleet}
use Rattle.replica.specs.Picture.{AreHeld, FleetState}
use Rattle.replica.specs.declared.holding.Holding.{Holding}
use Rattle.versioned_map.specs.declared.command.Command.{Command}
use Rattle.versioned_map.specs.declared.command.Reply.{Reply as MapReply}
use Rattle.versioned_map.specs.declared.command.Reply.TheVariants as said
use Rattle.recovery.specs.Recovered.{IsSomePrefix}
use Rattle.recovery.specs.claims.declared.rebuilt.Rebuilt.{Rebuilt}
use Rattle.recovery.specs.master.Valid.{IsValid}
use Rattle.recovery.specs.master.World.{MasterValue}
use Rattle.recovery.specs.master.log_laws.Data.{durable_of}
use Rattle.recovery.specs.master.master_state.Data.{MasterData}
use Rattle.recovery.specs.master.master_state.Log.{log_of}
use Rattle.recovery.specs.master.master_state.Steps.{halted}
use Rattle.recovery.specs.master.master_state.declared.config.Config.{Config}
use Rattle.recovery.specs.master.master_state.declared.step.Refusal.{Refusal}
use Rattle.recovery.specs.replay.Adopting.{IsAdopted, IsAdoptedOn}
use Rattle.embedded.specs.declared.rescue.NotRecovered.{NotRecovered}
use Rattle.embedded.specs.Losses.{IsWhy}
use Rattle.embedded.specs.Options.{config_of}
use Rattle.embedded.specs.Replies.{GoesOn, Means, kept_reply, no_master, too_big}
use Rattle.embedded.specs.declared.life.Life.{Life}
use Rattle.embedded.specs.declared.life.Life.TheVariants.{Up, Down, Changing}
use Rattle.embedded.specs.declared.options.Options.{Options}
use Rattle.embedded.specs.declared.reply.Reply.{Reply}

-- there is a master
abbrev pub is_up : Life → Bool
is_up (Up m) = true
is_up (Down fleet) = false
is_up Changing = false

-- ---- commands

-- A master carried the command out, and the reply says what came of it. Without a master nothing changed.
abbrev pub Serves : Life → Command → Reply → Life → Type 0
Serves (Up m) command r new = (n : MasterValue MemoryFleet) × (new ≡ Up n)
    × Means m.knows command r n.knows × IsValid n.knows (fleet_state n.fleet)
Serves old command r new = (r ≡ no_master) × (new ≡ old)

-- the key of a table with these bytes
abbrev pub key_of : ℕ → List ℕ → Key
key_of table bytes = record { table = table; bytes = bytes }

-- A command whose key is no key is refused as too big, and nothing changed. Any other is carried out.
abbrev pub ServesKey : Life → List ℕ → Command → Reply → Life → Type 0
ServesKey old key command r new = (IsKeyBytes key × Serves old command r new)
    ⊎ ((IsKeyBytes key → ⊥) × (r ≡ too_big) × (new ≡ old))

-- A put whose key is no key or whose value is too long is refused as too big, and nothing changed. Any other is
-- carried out.
abbrev pub ServesPut : Life → List ℕ → List ℕ → Command → Reply → Life → Type 0
ServesPut old key value command r new = (IsKeyBytes key × IsValue value × Serves old command r new)
    ⊎ ((IsKeyBytes key × IsValue value → ⊥) × (r ≡ too_big) × (new ≡ old))

-- the value that a get found
abbrev pub found_value : Option MapReply → Option (List ℕ)
found_value (Some (said.Found version value)) = Some value
found_value _ = None

-- the value that the record at this place found, unless it is forgotten
abbrev pub value_at : Life → ℕ → Option (List ℕ)
value_at (Up m) place = found_value (kept_reply m.knows place)
value_at _ place = None

-- ---- upkeep

-- The master goes on with no more records. Without a master nothing changed.
abbrev pub Keeps : Life → Life → Type 0
Keeps (Up m) new = (n : MasterValue MemoryFleet) × (new ≡ Up n) × GoesOn m.knows n.knows []
    × IsValid n.knows (fleet_state n.fleet)
Keeps old new = new ≡ old

-- there is a master, and all its records are durable
abbrev pub IsSettled : Life → Type 0
IsSettled (Up m) = length m.knows.history ≤ durable_of (log_of m.knows)
IsSettled _ = ⊥

-- ---- the end of a master

-- True if the master was dropped: the fleet stays as it was, and the master was valid to its end. Without a master
-- nothing changed.
abbrev pub Crashes : Life → Bool → Life → Type 0
Crashes (Up m) was new = (was ≡ true) × (new ≡ Down m.fleet) × IsValid m.knows (fleet_state m.fleet)
Crashes old was new = (was ≡ false) × (new ≡ old)

-- True if the backup lost all that it held. With a master nothing changed.
abbrev pub Loses : Life → ℕ → Bool → Life → Type 0
Loses (Down fleet) backup done new = (done ≡ true)
    × ((after : MemoryFleet) × (new ≡ Down after) × (fleet_state after ≡ lost (fleet_state fleet) backup))
Loses old backup done new = (done ≡ false) × (new ≡ old)

-- ---- a recovery

-- This table was found of what these backups hold of the master. Whatever that master was: if it was valid, and some
-- of its backups were lost since, the table is the map after a prefix of its commands with each durable one.
pub record IsFound (f : FleetState) (master : ℕ) (table : Rebuilt) : Type 0 where
  pub inventory : List Holding
  pub held : AreHeld inventory f.picture
  pub prefix : IsSomePrefix inventory (f.least master) master table

-- A master of this configuration adopted the table, and is up. Or it was refused: the fleet is left, in which no
-- replica of another master changed.
abbrev pub Adopts : FleetState → Rebuilt → Config → Result Unit Refusal → Life → Type 0
Adopts f table c (Ok u) new = (m : MasterValue MemoryFleet) × (new ≡ Up m) × IsAdopted c table m.knows
    × IsValid m.knows (fleet_state m.fleet)
Adopts f table c (Err why) new =
    (left : MemoryFleet) × (new ≡ Down left) × IsAdoptedOn c.master f (fleet_state left)

-- what the next master knows once it freed what others left: if a backup failed then, it is halted
abbrev pub FreesOf : Bool → MasterData → MasterData → Type 0
FreesOf true old new = new ≡ old
FreesOf false old new = (new ≡ old) ⊎ (new ≡ halted old)

-- The master freed the replicas of all others, or some of them. Without a master nothing changed.
abbrev pub Frees : Life → Bool → Life → Type 0
Frees (Up m) all new = (n : MasterValue MemoryFleet) × (new ≡ Up n) × FreesOf all m.knows n.knows
    × IsValid n.knows (fleet_state n.fleet)
Frees old all new = (all ≡ false) × (new ≡ old)

-- A table was found, and a master of this number, which is above those that were used, began with it.
pub record IsRecovered (f : FleetState) (o : Options) (master used number : ℕ) (new : Life) : Type 0 where
  pub table : Rebuilt
  pub found : IsFound f master table
  pub above : used < number
  pub next : MasterValue MemoryFleet
  pub up : new ≡ Up next
  pub adopted : IsAdopted (config_of o number) table next.knows
  pub valid : IsValid next.knows (fleet_state next.fleet)

-- A recovery that was refused leaves the fleet, in which at most the replicas of one other master changed.
abbrev pub StaysDown : MemoryFleet → Life → Type 0
StaysDown old new = (left : MemoryFleet) × (new ≡ Down left) × (number : ℕ)
    × IsAdoptedOn number (fleet_state old) (fleet_state left)

-- What a recovery of the master with this number makes of a life. A refusal says why (*IsWhy*). With a master nothing
-- changed.
abbrev pub RecoversTo : Life → Options → ℕ → ℕ → Result ℕ NotRecovered → Life → Type 0
RecoversTo (Down fleet) o master used (Ok number) new =
    IsRecovered (fleet_state fleet) o master used number new
RecoversTo (Down fleet) o master used (Err e) new = StaysDown fleet new × IsWhy (fleet_state fleet) o master e
RecoversTo old o master used (Ok number) new = ⊥
RecoversTo old o master used (Err e) new = new ≡ old

-- the same, and then the replicas of other masters were freed
abbrev pub Recovers : Life → Options → ℕ → ℕ → Result Bool NotRecovered → ℕ → Life → Type 0
Recovers old o master used (Ok all) number new =
    (mid : Life) × RecoversTo old o master used (Ok number) mid × Frees mid all new
Recovers old o master used (Err e) number new = RecoversTo old o master used (Err e) new × (number ≡ master)
