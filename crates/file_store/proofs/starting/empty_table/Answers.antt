use Rattle.std.proofs.Common.{◌∙◌, List, [], arith, subst, sym}
use Rattle.std.specs.List.Sorted.{IsStrictlySortedBy}
use Rattle.entry.specs.declared.entry.Object.{Object}
use Rattle.claims.specs.Listed.{AreBelow, AreOrdered}
use Rattle.file_store.proofs.starting.empty_table.Goals as goal

none_ordered : AreOrdered []
unfolding IsStrictlySortedBy
none_ordered = tt

pub invariant_of-result-clause-ordered : goal.invariant_of-result-clause-ordered
invariant_of-result-clause-ordered c = subst AreOrdered (sym (c.new-2.ensures ∙ c.new.ensures)) none_ordered

pub invariant_of-result-clause-below : goal.invariant_of-result-clause-below
invariant_of-result-clause-below c =
    subst (λ (os : List Object). AreBelow c.first.result os) (sym (c.new-2.ensures ∙ c.new.ensures))
    (λ k d lt. absurd (omega (arith, lt)))
