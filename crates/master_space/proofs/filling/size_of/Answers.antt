use Rattle.std.proofs.Common.{◌≡◌, ℕ, ap, ◌∙◌}
use Rattle.std.specs.Prelude.{Some, None, nat_le, if◌then◌else◌}
use Rattle.cleaner.specs.KeptLengths.{survivors_over}
use Rattle.cleaner.specs.Passes.{images_in, ids_in}
use Rattle.master_state.specs.contracts.state.Core.{the_view}
use Rattle.master_state.specs.Causes.{survivors_for, victims_fault}
use Rattle.master_state.specs.Data.{MasterData}
use Rattle.master_state.proofs.FreeVictims.{are_free}
use Rattle.master_state.proofs.PassIds.{victims_there}
use Rattle.master_space.proofs.filling.size_of.Goals as goal

pub fit-requires-clause-there : goal.fit-requires-clause-there
fit-requires-clause-there c =
    let d = the_view c.core.inside in
    victims_there d c.core.invariant.2 c.args.victims.now (are_free d c.args.victims.now
    (ap (λ (m : MasterData). victims_fault m c.args.victims.now) c.core.view_is ∙ c.requires))

pub returns : goal.returns
returns c =
    let d : MasterData = the_view c.core.inside in
    let victims = c.args.victims.now in
    let same : survivors_over d.config.segment (ids_in d.closed c.id.result c.opening_id-new.result) d.index
    (images_in d.closed) victims ≡ survivors_for c.args.core.now victims =
    (λ i. survivors_over d.config.segment (ids_in d.closed (c.id.ensures.id i) (c.opening_id-new.ensures i)) d.index
    (images_in d.closed) victims)
    ∙ ap (λ (m : MasterData). survivors_for m victims) c.core.view_is in
    c.fit.ensures.count ∙ ap (λ (n : ℕ). if nat_le n 4 then Some n else None) same
