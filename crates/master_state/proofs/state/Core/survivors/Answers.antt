use Rattle.std.proofs.Common.{length, sym, ap, ◌∙◌}
use Rattle.std.specs.Prelude.{Option}
use Rattle.std.proofs.lemmas.List.FromFn.{length-range_with_len}
use Rattle.cleaner.specs.declared.pass.Pass.{Pass}
use Rattle.master_state.specs.Budget.{survivors_of}
use Rattle.master_state.proofs.state.Core.survivors.Goals as goal

pub returns-in-Some-clause-count : goal.returns-in-Some-clause-count
returns-in-Some-clause-count c =
    rw (← c.self.view_is)
    (sym (ap (λ (o : Option Pass). length (survivors_of o)) c.in-Some.is
    ∙ length-range_with_len c.in-Some.pass.survivors.first c.in-Some.pass.survivors.count))
