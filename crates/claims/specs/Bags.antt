-- What counts of the entries in segments.
use Rattle.std.specs.Prelude.{List, filter}
use Rattle.std.specs.List.{flat_map}
use Rattle.entry.specs.declared.entry.Entry.{Entry}
use Rattle.entry.specs.Text.{is_data}

-- the objects and tombstones of the segments
abbrev pub segments_bag : List (List Entry) → List Entry
segments_bag segments = flat_map (filter is_data) segments
