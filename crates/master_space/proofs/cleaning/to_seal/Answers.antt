use Rattle.std.proofs.Common.{ℕ, sym, subst}
use Rattle.std.specs.Prelude.{Option, IfSome}
use Rattle.cleaner.specs.declared.pass.Pass.{Pass}
use Rattle.entry.specs.Bag.{IsAmong}
use Rattle.master_state.specs.contracts.state.Core.{the_view}
use Rattle.master_state.specs.Budget.{survivors_of}
use Rattle.master_state.specs.Data.{MasterData}
use Rattle.master_space.proofs.SealedCore.{next_among, next_few}
use Rattle.master_space.proofs.cleaning.to_seal.Goals as goal

pub returns-in-Some-clause-survivor : goal.returns-in-Some-clause-survivor
returns-in-Some-clause-survivor c =
    let d : MasterData = the_view c.core.inside in
    rw (← c.core.view_is)
    (subst (λ (o : Option Pass). IfSome c.next_seal.result (λ (n : ℕ × ℕ). IsAmong n.0 (survivors_of o)))
    (sym c.in-Some.is)
    (next_among d.config.replicas d.closed c.in-Some.pass c.next_seal.result c.next_seal.ensures))

pub returns-in-Some-clause-few : goal.returns-in-Some-clause-few
returns-in-Some-clause-few c =
    let d : MasterData = the_view c.core.inside in
    rw (← c.core.view_is)
    (next_few d.config.replicas d.closed c.in-Some.pass c.next_seal.result c.next_seal.ensures)
