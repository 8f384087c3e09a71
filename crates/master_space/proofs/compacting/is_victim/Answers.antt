use Rattle.std.proofs.Common.{ℕ, List, sym, ap, ◌∙◌}
use Rattle.std.specs.Prelude.{Option}
use Rattle.cleaner.specs.declared.pass.Pass.{Pass}
use Rattle.compactor.specs.Kept.{has_id}
use Rattle.master_state.specs.Budget.{victims_of}
use Rattle.master_space.proofs.compacting.is_victim.Goals as goal

pub returns-in-Some : goal.returns-in-Some
returns-in-Some c =
    rw (← c.core.view_is)
    (c.contains.ensures.value ∙ ap (λ (ids : List ℕ). has_id ids c.args.id) c.as_slice.ensures
    ∙ ap (λ (o : Option Pass). has_id (victims_of o) c.args.id) (sym c.in-Some.is))
