-- What a reader of a segment knows at the offset that it has reached.
use Rattle.std.specs.Prelude.{ℕ, List}
use Rattle.entry.specs.declared.entry.Entry.{Entry}
use Rattle.segment.specs.declared.expected.Expected.{Expected}
use Rattle.segment.specs.Order.{Expects}
use Rattle.segment.specs.Faults.{StandBefore}

-- some segment begins with the entries before the offset, and after them this has to come next
abbrev pub IsWalked : List ℕ → ℕ → Expected → Type 0
IsWalked bytes at x = (before : List Entry) × (StandBefore bytes at before) × Expects before x
