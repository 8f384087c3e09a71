use Rattle.std.proofs.Common.{◌<◌, length, sym, subst}
use Rattle.master_state.specs.contracts.state.Core.{the_view}
use Rattle.master_state.specs.Data.{MasterData}
use Rattle.master_rolls.proofs.Awaited.{none_durable}
use Rattle.master_rolls.proofs.rolling.next_push_for.Goals as goal

pub returns-clause-durable : goal.returns-clause-durable
returns-clause-durable c =
    let d : MasterData = the_view c.core.inside in
    let within = subst (λ (m : MasterData). c.args.place < length m.history) (sym c.core.view_is) c.requires in
    rw (← c.core.view_is) (none_durable d c.args.place c.next_for.result within c.next_for.ensures.lacks)
