use Rattle.std.proofs.Common.{ℕ, ◌≤◌, length, ap, subst, arith}
use Rattle.std.proofs.Math.Nat.{le_antisymm}
use Rattle.std.specs.Prelude.{Option, Some, None, IfSome}
use Rattle.std.specs.Option.{option_map_or}
use Rattle.log_head.specs.declared.head.Roll.{Roll}
use Rattle.log_head.specs.Head.{IsRollValue}
use Rattle.master_state.specs.contracts.state.Core.{the_view}
use Rattle.master_state.specs.Data.{MasterData}
use Rattle.master_state.specs.Invariant.{IsCore}
use Rattle.master_failover.specs.Mending.{opened_now}
use Rattle.master_failover.proofs.mending.next_of_opening.Goals as goal

-- no more replicas of the new head are open than it has
module _ (d : MasterData) (core : IsCore d) where
  count_few : (o : Option Roll) → IfSome o (IsRollValue d.head.replicas (length d.head.taken))
      → option_map_or (λ (r : Roll). r.opened) o (length d.head.taken) ≤ d.config.replicas
  count_few None is = (let few = core.head.opened in let same = core.replicas in omega arith)
  count_few (Some r) is = (let few = is.opened in let same = core.replicas in omega arith)

  opened_few : opened_now d ≤ d.config.replicas
  opened_few = count_few d.head.roll core.head.roll

pub next_open-requires : goal.next_open-requires
next_open-requires c =
    let same = ap (λ (m : MasterData). m.config.replicas) c.core.view_is in
    (c.requires, c.opened_now-opened.ensures, omega arith)

pub returns : goal.returns
returns c =
    let d : MasterData = c.args.core.now in
    let few : opened_now d ≤ d.config.replicas = subst (λ (m : MasterData). opened_now m ≤ m.config.replicas)
    c.core.view_is (opened_few (the_view c.core.inside) c.core.invariant.2) in
    let all : d.config.replicas ≤ opened_now d =
    subst (λ (m : MasterData). m.config.replicas ≤ opened_now d) c.core.view_is
    (subst (λ (n : ℕ). c.core.inside.config.replicas ≤ n) c.opened_now-opened.ensures c.if-opened-replicas.false) in
    (c.requires, le_antisymm few all, c.new_id.ensures)
