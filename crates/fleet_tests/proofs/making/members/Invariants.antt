use Rattle.take_journal.specs.Memory.{memory_bytes, memory_has_failed, memory_leaves}
use Rattle.file_fleet.specs.Noting.{IsSound, noted_by}
use Rattle.fleet_start.specs.Found.{AreFound}
use Rattle.fleet_tests.proofs.making.members.Given as goal

abbrev pub invariant-loop-i : goal.invariant-loop-i
invariant-loop-i l =
    AreFound memory_bytes memory_leaves memory_has_failed (λ r. noted_by r)
    (λ r. IsSound memory_bytes memory_leaves memory_has_failed r) l.found.places.items l.found.registry
