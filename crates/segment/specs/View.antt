-- What an iterator over the entries of a segment has still to give.
use Rattle.std.specs.Prelude.{List}
use Rattle.entry.specs.declared.entry.Entry.{Entry}
use Rattle.entry.specs.Text.{entries_in}
use Rattle.segment.specs.declared.entries.Entries.{Entries}

-- the entries that are still to come
abbrev pub entries_left : Entries → List Entry
entries_left it = entries_in it.rest.now
