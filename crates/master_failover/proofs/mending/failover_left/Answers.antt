use Rattle.std.proofs.Common.{◌≡◌, ℕ, ◌+◌, ◌*◌, ◌≤◌, sym, subst}
use Rattle.std.specs.Prelude.{None, ◌↔◌}
use Rattle.master_state.specs.Budget.{most_segments}
use Rattle.master_failover.proofs.LeftBounds.{left_few, left_none}
use Rattle.master_failover.proofs.mending.failover_left.Goals as goal

pub returns-clause-none : goal.returns-clause-none
returns-clause-none c =
    let d = c.args.core.now in
    subst (λ (n : ℕ). (d.failover ≡ None) ↔ (n ≡ 0)) (sym c.left.ensures) (left_none d c.show_valid.ensures)

pub returns-clause-few : goal.returns-clause-few
returns-clause-few c =
    let d = c.args.core.now in
    subst (λ (n : ℕ). n ≤ d.config.replicas * (most_segments d.config + 2) + 1) (sym c.left.ensures)
    (left_few d c.show_valid.ensures)
