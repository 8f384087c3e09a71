use Rattle.std.proofs.Common.{rules}
use Rattle.std.proofs.lemmas.List.Sorted.{answers_always}
use Rattle.entry.specs.declared.tablet.Size.{Size}
use Rattle.master_space.proofs.SizeOrder.{sorted_order}
use Rattle.master_space.proofs.sizes.sort.Goals as goal

pub returns-clause-order : goal.returns-clause-order
returns-clause-order c =
    sorted_order c.sort_unstable_by_key.new.self.items
    (c.sort_unstable_by_key.ensures.sorted (λ (s : Size). (s.table, s.place))
    (answers_always _ _ _ (λ f a r f' called. search rules)))
