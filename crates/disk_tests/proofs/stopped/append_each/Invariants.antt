use Rattle.take_journal.specs.Journal.{IsSound}
use Rattle.take_journal.specs.Memory.{memory_bytes, memory_has_failed, memory_leaves}
use Rattle.disk_tests.proofs.stopped.append_each.Given as goal

abbrev pub invariant-loop-number : goal.invariant-loop-number
invariant-loop-number l = IsSound memory_bytes memory_leaves memory_has_failed l.journal
