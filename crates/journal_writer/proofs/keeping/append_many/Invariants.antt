use Rattle.disk_file.specs.Disk.{contents, has_failed, may_leave}
use Rattle.take_journal.specs.Journal.{IsSound}
use Rattle.journal_writer.proofs.keeping.append_many.Given as goal

abbrev pub invariant-loop : goal.invariant-loop
invariant-loop l = IsSound contents may_leave has_failed l.journal
