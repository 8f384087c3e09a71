-- What a segment has in front of its objects and tombstones.
use Rattle.std.specs.Prelude.{List, [], ◌∷◌, if◌then◌else◌}
use Rattle.entry.specs.declared.entry.Entry.{Entry}
use Rattle.entry.specs.Text.{is_data}

-- the entries in front of the first object or tombstone
abbrev pub front_of : List Entry → List Entry
front_of [] = []
front_of (e ∷ es) = if is_data e then [] else e ∷ front_of es
