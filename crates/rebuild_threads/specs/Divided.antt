-- A log that is divided segment by segment.
use Rattle.std.specs.Prelude.{◌≡◌, ℕ, ◌<◌, List, [], length, Bool, true, false, slice_index_or, ⊤}
use Rattle.entry.specs.declared.key.Key.{Key}
use Rattle.entry.specs.declared.entry.Entry.{Entry}
use Rattle.tablet_will.specs.declared.part.Part.{Part}
use Rattle.tablet_will.specs.Parts.{partitions_of}
use Rattle.division.specs.Division.{AreCovered, HasStray}
use Rattle.claims.specs.Bags.{segments_bag}
use Rattle.partitions.specs.declared.setback.Setback.{Setback}
use Rattle.partitions.specs.declared.setback.Setback.TheVariants as setback

-- The segments and the will are those of the division. Each key of a marked segment has a partition.
pub record AreDivided (qs : List Part) (segments here : List (List Entry)) (will : List Part) (partitions : ℕ)
    (marks : List Bool) : Type 0 where
  pub is_log : here ≡ segments
  pub is_will : will ≡ qs
  pub count : partitions ≡ partitions_of qs
  pub some : 0 < partitions
  pub long : length marks ≡ length segments
  pub covered : (at : ℕ) → slice_index_or marks at false ≡ true → AreCovered qs (slice_index_or segments at [])

-- Why a log is not divided: memory ran out, or some key has no partition.
abbrev pub IsDivideSetback : List Part → List (List Entry) → Setback → Type 0
IsDivideSetback qs segments setback.NoMemory = ⊤
IsDivideSetback qs segments setback.Stray = (k : Key) × HasStray qs (segments_bag segments) k
IsDivideSetback qs segments _ = ⊥
