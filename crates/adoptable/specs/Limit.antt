-- Tables that are within the limit of a configuration, logs that had no others, and masters that keep their limit.
use Rattle.std.specs.Prelude.{◌≡◌, ℕ, ◌+◌, ◌*◌, ◌<◌, ◌≤◌, List, length, sum, None, true, false, ◌||◌}
use Rattle.std.specs.List.{AllByRecursion}
use Rattle.entry.specs.declared.entry.Object.{Object}
use Rattle.entry.specs.Meaning.{Contents, contents_of}
use Rattle.entry.specs.Tablet.{have_key}
use Rattle.packing.specs.Limits.{unlimited}
use Rattle.packing.specs.Packing.{whole}
use Rattle.versioned_map.specs.declared.command.Command.{Command}
use Rattle.versioned_map.specs.declared.command.Command.TheVariants.{Put}
use Rattle.versioned_map.specs.declared.command.If.TheVariants.{Any}
use Rattle.versioned_map.specs.Command.{command_key}
use Rattle.replay.specs.master.log_laws.Data.{FailData, state_after}
use Rattle.replay.specs.master.master_state.declared.config.Config.{Config}
use Rattle.replay.specs.master.master_state.Causes.{is_too_big, is_longer}
use Rattle.replay.specs.master.master_state.Config.{config_fault, sizes_of}
use Rattle.replay.specs.master.master_state.Data.{MasterData}
use Rattle.replay.specs.master.master_state.Log.{log_of, state_now}
use Rattle.replay.specs.master.master_state.Sizes.{AreOnce}
use Rattle.replay.specs.Needs.{lengths_of, needed_for, CanBeAdopted}

-- ---- tables

-- The objects of these contents have so many bytes in all, however they are listed, each key once.
abbrev pub IsSum : Contents → ℕ → Type 0
IsSum contents bytes = (os : List Object) → AreOnce os → contents_of os ≡ contents → sum (lengths_of os) ≡ bytes

-- The configuration allows the command: its key lies in a tablet, and it is no put of an object that is too big.
abbrev pub IsAllowed : Config → Command → Type 0
IsAllowed c command = (have_key c.tablets (command_key command) ≡ true)
    × ((is_too_big command c.segment || is_longer command c.largest) ≡ false)

-- a put of the object
abbrev pub put_of : Object → Command
put_of o = Put o.key o.value Any

-- The objects have at most as many bytes as the limit, and the configuration allows a put of each.
pub record IsWithin (c : Config) (os : List Object) : Type 0 where
  pub sum : sum (lengths_of os) ≤ c.most_live
  pub allowed : AllByRecursion (λ (o : Object). IsAllowed c (put_of o)) os

-- A new master of this configuration can adopt the objects, and has two whole segments to spare then.
pub record HasRoomFor (c : Config) (os : List Object) : Type 0 where
  pub adoptable : CanBeAdopted c os
  pub spare : needed_for c os + 2 * whole (sizes_of c) ≤ c.seglets

-- ---- logs and masters

-- The configuration has no fault, and it limits the bytes of the live objects.
pub record HasLimit (c : Config) : Type 0 where
  pub valid : config_fault c ≡ None
  pub limited : c.most_live < unlimited

-- Each table that the log had, after any count of its records, is within the limit, however it is listed.
abbrev pub IsAdmitted : Config → FailData → Type 0
IsAdmitted c d = (count : ℕ) (os : List Object) → count ≤ length d.history → AreOnce os
    → contents_of os ≡ (state_after d count).contents → IsWithin c os

-- The master has a limit, it counts the bytes of its live objects right, and its log has had no table beyond the limit.
pub record KeepsLimit (d : MasterData) : Type 0 where
  pub limit : HasLimit d.config
  pub counted : IsSum (state_now d).contents d.live
  pub admitted : IsAdmitted d.config (log_of d)
