use Rattle.disk_file.specs.Disk.{contents, has_failed, may_leave}
use Rattle.take_journal.specs.Journal.{IsSound}
use Rattle.journal_writer.proofs.keeping.append_lines.Given as goal

abbrev pub invariant-loop-line : goal.invariant-loop-line
invariant-loop-line l =
    (goal.iterator-loop-line).can_next l.line-iterator ×
    (goal.iterator-loop-line).is_finite l.line-iterator ×
    IsSound contents may_leave has_failed l.journal
