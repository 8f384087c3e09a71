use Rattle.std.specs.Prelude.{◌≡◌, ◌≤◌, None, drop, length}
use Rattle.registry_file.specs.Kept.{file_in}
use Rattle.registry_file.proofs.registry.file_in.Given as goal

abbrev pub invariant-loop-i : goal.invariant-loop-i
invariant-loop-i l = (l.i ≤ length l.journals) × (file_in (drop l.i l.journals) l.fn.backup ≡ None)

abbrev pub decreases-loop-i : goal.decreases-loop-i
decreases-loop-i l = l.i
