use Rattle.std.proofs.Common.{ap, ◌∙◌}
use Rattle.store_lines.specs.master.master_state.Data.{MasterData}
use Rattle.asked_again.proofs.Retired.{same_config, same_history}
use Rattle.asked_again.proofs.succession.retire.Goals as goal

pub returns-in_default-clause-config : goal.returns-in_default-clause-config
returns-in_default-clause-config g c =
    ap (λ (d : MasterData). d.config) c.retire.ensures.knows ∙ same_config c.retire.result c.loop.master.knows
    ∙ ap (λ (d : MasterData). d.config) c.loop.invariant.2

pub returns-in_default-clause-history : goal.returns-in_default-clause-history
returns-in_default-clause-history g c =
    ap (λ (d : MasterData). d.history) c.retire.ensures.knows ∙ same_history c.retire.result c.loop.master.knows
    ∙ ap (λ (d : MasterData). d.history) c.loop.invariant.2
