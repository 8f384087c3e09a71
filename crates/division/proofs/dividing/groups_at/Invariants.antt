use Rattle.std.specs.Vec.Iter.{into_iter_items}
use Rattle.entry.specs.Text.{text_of}
use Rattle.division.proofs.Gatherings.{IsGrouping}
use Rattle.division.proofs.dividing.groups_at.Given as goal

abbrev pub invariant-loop-gathered : goal.invariant-loop-gathered
invariant-loop-gathered l =
    IsGrouping l.id (text_of l.segment) l.fn.all.items (into_iter_items l.gathered-iterator) l.groups.items
