use Rattle.std.proofs.Common.{List}
use Rattle.entry.specs.declared.entry.Entry.{Entry}
use Rattle.partition_replay.specs.Keeping.{kept_at, kept_in}
use Rattle.partition_replay.proofs.Clashing.{HasCome}
use Rattle.partition_replay.proofs.keeping.gather.Given as goal

-- the entries that came, what is kept of them, and what clashes
abbrev pub invariant-loop-entry : goal.invariant-loop-entry
invariant-loop-entry l =
    (front : List Entry) × HasCome (kept_at l.kept.entries) l.entries front l.entry-iterator
    (kept_in l.fresh.entries l.kept.entries)
