use Rattle.std.proofs.Common.{◌≡◌, ◌≤◌, length, sym, ap, subst, ◌∙◌, arith}
use Rattle.std.specs.Prelude.{Option, Some}
use Rattle.std.specs.Option.{option_copied, option_map_or}
use Rattle.std.proofs.Math.Nat.{mul-div-le}
use Rattle.log_head.specs.declared.head.Roll.{Roll}
use Rattle.log_head.specs.Head.{digest_of}
use Rattle.master_state.specs.contracts.state.Core.{the_view}
use Rattle.master_state.specs.Budget.{most_segments}
use Rattle.master_state.specs.Data.{MasterData}
use Rattle.master_state.specs.Invariant.{IsCore}
use Rattle.master_state.proofs.Refusals.{sizes_of}
use Rattle.master_failover.proofs.left.lost_now.Goals as goal

pub lost_of-requires-clause-listed : goal.lost_of-requires-clause-listed
lost_of-requires-clause-listed c =
    let d : MasterData = the_view c.core.inside in
    let core : IsCore d = c.core.invariant.2 in
    let rolls : d.head.roll ≡ Some c.in-Some.roll.now = sym c.roll.ensures ∙ ap option_copied c.in-Some.is in
    let listed : length (digest_of c.in-Some.roll.now.image) ≤ most_segments d.config =
    subst (λ (o : Option Roll). length (option_map_or (λ (r : Roll). digest_of r.image) o (digest_of d.head.image))
    ≤ most_segments d.config) rolls core.listed in
    let most = (sizes_of d.config core.config).most_segment in
    let parts = mul-div-le d.config.segment 32 in
    omega arith
