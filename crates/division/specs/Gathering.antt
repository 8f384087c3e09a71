-- The places of a segment's entries, gathered for each partition.
use Rattle.std.specs.Prelude.{◌≡◌, ℕ, List, [], map}
use Rattle.std.specs.List.{range_with_len, AllByRecursion}
use Rattle.entry.specs.declared.entry.Entry.{Entry}
use Rattle.entry.specs.Text.{text_of}
use Rattle.tablet_will.specs.declared.part.Part.{Part}
use Rattle.division.specs.declared.gathered.Gathered.{Gathered}
use Rattle.division.specs.Placed.{entries_at, AllStand}
use Rattle.division.specs.Groups.{Grouped}
use Rattle.division.specs.Division.{groups_of}

-- the group of the entries at these places of the text
abbrev pub group_at : ℕ → List ℕ → Gathered → Grouped
group_at segment text g =
    record { segment = segment; partition = g.partition; entries = entries_at text g.places.items }

-- an entry stands at each of the gathered places
abbrev pub ArePlaces : List ℕ → List Gathered → Type 0
ArePlaces text gs = AllByRecursion (λ (g : Gathered). AllStand text g.places.items) gs

-- for each of so many partitions, in order, no place is gathered
pub record AreEmpty (partitions : ℕ) (gs : List Gathered) : Type 0 where
  pub numbers : map (λ (g : Gathered). g.partition) gs ≡ range_with_len 0 partitions
  pub empty : AllByRecursion (λ (g : Gathered). g.places.items ≡ []) gs

-- The entries at the gathered places are the groups of a segment with these entries, whatever the segment's id is.
pub record AreGathered (qs : List Part) (es : List Entry) (gs : List Gathered) : Type 0 where
  pub stand : ArePlaces (text_of es) gs
  pub groups : (segment : ℕ) → map (group_at segment (text_of es)) gs ≡ groups_of qs segment es
