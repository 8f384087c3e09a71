use Rattle.std.proofs.Common.{◌≡◌, ◌++◌, map}
use Rattle.std.specs.List.{AllByRecursion}
use Rattle.std.specs.Vec.Iter.{into_iter_items}
use Rattle.entry.specs.Text.{entries_in}
use Rattle.replica.specs.declared.holding.Holding.{Holding}
use Rattle.recovery_plan.specs.Good.{IsGood}
use Rattle.recovery_plan.specs.Looked.{lent}
use Rattle.recovery_plan.proofs.reading.segments_of.Given as goal

abbrev pub invariant-loop-holding : goal.invariant-loop-holding
invariant-loop-holding l = record {
  good : AllByRecursion IsGood (lent (into_iter_items l.holding-iterator));
  all : l.segments.items
      ++ map (λ (h : Holding). entries_in h.bytes) (lent (into_iter_items l.holding-iterator))
      ≡ map (λ (h : Holding). entries_in h.bytes) (lent l.fn.chosen.items);
}
