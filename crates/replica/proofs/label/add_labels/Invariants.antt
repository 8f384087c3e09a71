use Rattle.std.specs.Prelude.{◌≡◌, ◌++◌, map, take}
use Rattle.replica.specs.Picture.{label_of}
use Rattle.replica.proofs.label.add_labels.Given as goal

abbrev pub invariant-loop-holding : goal.invariant-loop-holding
invariant-loop-holding l =
    l.labels.items ≡ l.fn.labels.items ++ map label_of (take l.holding-index l.holdings)
