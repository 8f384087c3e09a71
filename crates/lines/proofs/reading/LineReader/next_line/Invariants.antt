use Rattle.std.proofs.Common.{◌≡◌, ◌≤◌, ◌-◌, ◌+◌, length, vec_len, vec_capacity}
use Rattle.std.specs.Io.KnownBytes.{Consumes, Keeps}
use Rattle.lines.specs.Reading.{IsUnbroken}
use Rattle.lines.specs.Scanning.{behind, line_limit, starts}
use Rattle.lines.proofs.reading.LineReader.next_line.Given as goal

abbrev pub invariant-parts : goal.invariant-parts
invariant-parts g l = record {
  consumed : Consumes (g.R.Read.remaining l.fn.reader) (g.R.Read.remaining l.reader) l.self-inside.text.items;
  unbroken : IsUnbroken l.fn.is_raw l.self-inside.text.items;
  stands : l.scan ≡ behind (starts l.fn.is_raw) l.self-inside.text.items;
  short : length l.self-inside.text.items ≤ line_limit l.fn.is_raw + 1;
  flushed : Keeps (g.W.Write.contents l.fn.writer) (g.W.Write.contents l.writer);
  room : line_limit l.fn.is_raw + 1 ≤ vec_capacity l.self-inside.text;
}

abbrev pub decreases-parts : goal.decreases-parts
decreases-parts g l = (line_limit l.fn.is_raw + 1) - vec_len l.self-inside.text
