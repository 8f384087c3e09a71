use Rattle.std.specs.Prelude.{◌≡◌, ◌≤◌, None, drop, length}
use Rattle.registry_file.specs.Kept.{file_in}
use Rattle.registry_file.proofs.registry.put_journal.Given as goal

abbrev pub invariant-loop-i : goal.invariant-loop-i
invariant-loop-i l = record {
  same : l.journals ≡ l.fn.journals;
  within : l.i ≤ length l.journals.items;
  behind : file_in (drop l.i l.journals.items) l.fn.journal.backup ≡ None;
}

abbrev pub decreases-loop-i : goal.decreases-loop-i
decreases-loop-i l = l.i
