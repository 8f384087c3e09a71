use Rattle.std.proofs.Common.{◌≡◌, ◌≤◌, length, take, map}
use Rattle.std.specs.List.{AllByRecursion}
use Rattle.entry.specs.Format.{IsEntry}
use Rattle.entry.specs.Text.{text_of}
use Rattle.entry.specs.View.{shown}
use Rattle.segment.proofs.unit.len_within.Given as goal

abbrev pub invariant-loop-entry : goal.invariant-loop-entry
invariant-loop-entry l =
    record {
      len : l.len ≡ length (text_of (map shown (take l.entry-index l.unit)));
      fits : l.len ≤ l.room;
      valid : AllByRecursion IsEntry (map shown (take l.entry-index l.unit));
    }
