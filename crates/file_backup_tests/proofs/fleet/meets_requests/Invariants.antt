use Rattle.take_journal.specs.Memory.{memory_bytes, memory_has_failed, memory_leaves}
use Rattle.file_fleet.specs.Members.{AreSafe}
use Rattle.file_fleet.specs.Noting.{IsSound, noted_by}
use Rattle.file_backup_tests.proofs.fleet.meets_requests.Given as goal

abbrev pub invariant-loop-i : goal.invariant-loop-i
invariant-loop-i l =
    AreSafe memory_bytes memory_leaves memory_has_failed (λ r. noted_by r)
    (λ r. IsSound memory_bytes memory_leaves memory_has_failed r) l.members
