-- How much memory a new master needs to adopt a list, and which lists it can adopt.
use Rattle.std.specs.Prelude.{◌≡◌, ◌<◌, ◌≤◌, ℕ, List, map, length, true, None}
use Rattle.entry.specs.declared.entry.Object.{Object}
use Rattle.entry.specs.Text.{text_of}
use Rattle.replica.specs.Picture.{FleetState}
use Rattle.packing.specs.Packing.{can_load, seglets_needed}
use Rattle.claims.specs.declared.rebuilt.Rebuilt.{Rebuilt}
use Rattle.driving.specs.master_core.master_state.declared.config.Config.{Config}
use Rattle.driving.specs.master_core.master_state.declared.step.Refusal.TheVariants as refusal
use Rattle.driving.specs.master_core.master_state.Config.{config_fault, sizes_of}
use Rattle.driving.specs.master_core.master_state.Loading.{loaded_unit}
use Rattle.replay.specs.Adopting.{DeclinesList}

-- the bytes that an object has in a segment
abbrev pub length_of : Object → ℕ
length_of o = length (text_of (loaded_unit o))

abbrev pub lengths_of : List Object → List ℕ
lengths_of os = map length_of os

-- how many seglets a new master of this configuration needs for the objects
abbrev pub needed_for : Config → List Object → ℕ
needed_for c os = seglets_needed (sizes_of c) (lengths_of os)

-- A new master of this configuration has seglets for the objects, and its digest has places for their segments.
abbrev pub CanBeAdopted : Config → List Object → Type 0
CanBeAdopted c os = can_load (sizes_of c) (lengths_of os) ≡ true

-- the configuration with so many seglets
abbrev pub with_seglets : Config → ℕ → Config
with_seglets c seglets = record c { seglets = seglets }

-- With so many seglets or more the objects can be adopted, and with fewer they can't.
pub record IsNeeded (c : Config) (os : List Object) (needed : ℕ) : Type 0 where
  pub enough : (seglets : ℕ) → needed ≤ seglets → CanBeAdopted (with_seglets c seglets) os
  pub least : (seglets : ℕ) → CanBeAdopted (with_seglets c seglets) os → needed ≤ seglets

-- with no number of seglets the objects can be adopted: the digest has too few places
abbrev pub NoneIsEnough : Config → List Object → Type 0
NoneIsEnough c os = (seglets : ℕ) → CanBeAdopted (with_seglets c seglets) os → ⊥

-- An adoption of objects that can be adopted is refused as Full only if a take ended in a fault.
abbrev pub FullIsForFault : Type 0
FullIsForFault = (c : Config) (r : Rebuilt) (old new : FleetState) → config_fault c ≡ None
    → CanBeAdopted c r.objects → DeclinesList c r old refusal.Full new → old.faults < new.faults
