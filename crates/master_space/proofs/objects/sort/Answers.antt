use Rattle.std.proofs.Common.{rules}
use Rattle.std.proofs.lemmas.List.Sorted.{answers_always}
use Rattle.entry.specs.declared.view.ObjectRef.{ObjectRef}
use Rattle.master_space.proofs.objects.sort.Goals as goal

pub returns-clause-order : goal.returns-clause-order
returns-clause-order c =
    c.sort_unstable_by_key.ensures.sorted (λ (o : ObjectRef). o.key.bytes)
    (answers_always _ _ _ (λ f a r f' called. search rules))
