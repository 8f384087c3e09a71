-- Groups: the objects and tombstones that one segment has in one partition.
use Rattle.std.specs.Prelude.{ℕ, List, map}
use Rattle.std.specs.List.{flat_map}
use Rattle.entry.specs.declared.entry.Entry.{Entry}
use Rattle.division.specs.declared.group.Group.{Group}

-- a group by its values
pub record Grouped : Type 0 where
  pub segment : ℕ
  pub partition : ℕ
  pub entries : List Entry

abbrev pub grouped : Group → Grouped
grouped g = record { segment = g.segment; partition = g.partition; entries = g.entries }

-- all entries of the groups
abbrev pub bag_of : List Grouped → List Entry
bag_of groups = flat_map (λ (g : Grouped). g.entries) groups

-- the segments of the groups
abbrev pub segments_of : List Grouped → List ℕ
segments_of groups = map (λ (g : Grouped). g.segment) groups
