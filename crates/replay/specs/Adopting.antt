-- How a master adopts a rebuilt list.
use Rattle.std.specs.Prelude.{◌≡◌, ◌⊎◌, ◌≤◌, ℕ, zero, suc, List, [], ◌∷◌, ◌++◌, true, Some}
use Rattle.entry.specs.declared.entry.Entry.TheVariants as entry
use Rattle.entry.specs.declared.entry.Object.{Object}
use Rattle.entry.specs.Meaning.{contents_of}
use Rattle.replica.specs.Picture.{FleetState}
use Rattle.driving.specs.master.log_head.Head.{is_open}
use Rattle.driving.specs.master_core.master_state.declared.config.Config.{Config}
use Rattle.driving.specs.master_core.master_state.declared.step.Refusal.{Refusal}
use Rattle.driving.specs.master_core.master_state.declared.step.Refusal.TheVariants as refusal
use Rattle.driving.specs.master_core.master_state.Causes.{is_done}
use Rattle.driving.specs.master_core.master_state.Data.{MasterData}
use Rattle.driving.specs.master_core.master_state.Live.{object_bytes, with_bytes}
use Rattle.driving.specs.master_core.master_state.Loading.{load_refusal, restored_data, Loads, Settles}
use Rattle.driving.specs.master_core.master_state.Log.{opening_of}
use Rattle.driving.specs.master.Loading.{DeclinesLoad}
use Rattle.driving.specs.master.World.{World, world_of}
use Rattle.driving.specs.Rolls.{PushesUntil, IsRolled, IsNotRolled}
use Rattle.claims.specs.declared.rebuilt.Rebuilt.{Rebuilt}

-- ---- a master that is loaded

-- The object can't be loaded until some head has room for it.
abbrev pub HasToWait : Object → World → Type 0
HasToWait o w = load_refusal w.knows o ≡ Some refusal.Rolling

-- This many times the object had to wait, and room was made for it.
abbrev pub HasRoomMade : ℕ → Object → World → World → Type 0
HasRoomMade zero o old new = new ≡ old
HasRoomMade (suc count) o old new =
    (mid : World) × HasRoomMade count o old mid × HasToWait o mid × IsRolled mid new.knows.head.id new

-- The object was loaded, once room was made for it as often as it had to wait.
abbrev pub LoadsOne : Object → World → World → Type 0
LoadsOne o old new = (rooms : ℕ) × (mid : World) × HasRoomMade rooms o old mid
    × Loads mid.knows o new.knows × (new.fleet ≡ mid.fleet)

-- These objects were loaded, in this order.
abbrev pub HasLoaded : List Object → World → World → Type 0
HasLoaded [] old new = new ≡ old
HasLoaded (o ∷ os) old new = (mid : World) × LoadsOne o old mid × HasLoaded os mid new

-- The objects were loaded, and then pushes were made until nothing waited.
abbrev pub LoadsAll : List Object → World → World → Type 0
LoadsAll os old new = (mid : World) × HasLoaded os old mid × PushesUntil mid refusal.Nothing new

-- The object is not loaded: its load is refused, or it has to wait and no room is made for it.
abbrev pub DeclinesOne : Object → World → Refusal → World → Type 0
DeclinesOne o old r new = (DeclinesLoad old.knows (entry.Object o) r new.knows × (new.fleet ≡ old.fleet))
    ⊎ (HasToWait o old × IsNotRolled old r new)

-- Loading went no further, with these objects left. The first of them was not loaded, though room may have been made
-- for it before. If none was left, a push was refused.
abbrev pub IsStuck : List Object → World → Refusal → World → Type 0
IsStuck [] old r new = PushesUntil old r new
IsStuck (o ∷ os) old r new =
    (rooms : ℕ) × (mid : World) × HasRoomMade rooms o old mid × DeclinesOne o mid r new

-- the refusal ends an adoption: Rolling does not, since a roll makes room, and Nothing does not, since no push is
-- needed then
abbrev pub IsFinal : Refusal → Type 0
IsFinal r = (r ≡ refusal.Rolling → ⊥) × (r ≡ refusal.Nothing → ⊥)

-- The first of these objects were loaded, and then loading went no further.
pub record Stops (os : List Object) (old : World) (r : Refusal) (new : World) : Type 0 where
  pub loaded : List Object
  pub left : List Object
  pub parts : os ≡ loaded ++ left
  pub mid : World
  pub steps : HasLoaded loaded old mid
  pub cause : IsStuck left mid r new
  pub final : IsFinal r

-- ---- an adoption

-- the bytes of the live objects once these are loaded, where so many were live before
abbrev pub live_with : ℕ → List Object → ℕ
live_with live [] = live
live_with live (o ∷ os) = live_with (with_bytes live (object_bytes o.key o.value)) os

-- The master's map is the list, its history is empty, its head is open, and nothing waits to be pushed.
pub record IsAdopted (c : Config) (r : Rebuilt) (d : MasterData) : Type 0 where
  pub config : d.config ≡ c
  pub opening : opening_of d ≡ record { contents = contents_of r.objects; safe = r.safe }
  pub history : d.history ≡ []
  pub opened : is_open d.head ≡ true
  pub pushed : is_done d ≡ true
  -- the objects of the list are counted
  pub live : d.live ≡ live_with 0 r.objects

-- What an adoption leaves of the fleet, whether it succeeds or not.
pub record IsAdoptedOn (master : ℕ) (old new : FleetState) : Type 0 where
  pub backups : new.backups ≡ old.backups
  pub takes : old.takes ≤ new.takes
  pub end : new.end ≡ old.end
  -- no replica of another master changed
  pub others : (b m s : ℕ) → (m ≡ master → ⊥) → new.picture b m s ≡ old.picture b m s
  -- the least head of no other master is raised
  pub least : (m : ℕ) → (m ≡ master → ⊥) → new.least m ≡ old.least m

-- A master was restored over this fleet and loaded with the list, and this is the master that it became. A roll began
-- only if the next object had to wait and the head was open. Pushes were made only for an object that had to wait, or
-- after the last object, and then until nothing waited.
pub record AdoptsList (c : Config) (r : Rebuilt) (old : FleetState) (new : World) : Type 0 where
  pub last : World
  pub loads : LoadsAll r.objects (world_of (restored_data c r.safe) old) last
  pub settles : Settles last.knows new.knows
  pub fleet : new.fleet ≡ last.fleet

-- The list is not adopted: there was no memory for a master, or the loading of the list into that master went no
-- further.
abbrev pub DeclinesList : Config → Rebuilt → FleetState → Refusal → FleetState → Type 0
DeclinesList c r old why new = ((why ≡ refusal.NoMemory) × (new ≡ old))
    ⊎ ((after : MasterData) × Stops r.objects (world_of (restored_data c r.safe) old) why (world_of after new))
