use Rattle.std.proofs.Common.{◌≡◌, ◌≤◌, ◌+◌, ◌++◌, length, take, drop, map, vec_len, vec_capacity}
use Rattle.entry.specs.Text.{text_of}
use Rattle.entry.specs.View.{shown}
use Rattle.segment.proofs.unit.write_all.Given as goal

abbrev pub invariant-loop-entry : goal.invariant-loop-entry
invariant-loop-entry l =
    record {
      items : l.out.items ≡ l.initial.out.items ++ text_of (map shown (take l.entry-index l.unit));
      room : vec_len l.out + length (text_of (map shown (drop l.entry-index l.unit))) ≤ vec_capacity l.out;
      capacity : vec_capacity l.initial.out ≤ vec_capacity l.out;
    }
