use Rattle.std.proofs.Common.{◌≡◌, ℕ, ◌+◌, ◌≤◌, true, length, vec_capacity, sym, ap, subst, arith}
use Rattle.std.specs.Prelude.{List, IfSome}
use Rattle.master_state.specs.declared.waiting.Waiting.{Waiting}
use Rattle.master_state.specs.contracts.state.Core.{the_view}
use Rattle.master_state.specs.Data.{MasterData}
use Rattle.master_state.specs.Invariant.{IsCore}
use Rattle.master_state.specs.Steps.{freed_one}
use Rattle.master_space.proofs.FreedCore.{freed_core, freed_valid, freed_less, room_left}
use Rattle.master_space.proofs.cleaning.freed.Goals as goal

module _ (c : goal.After-free_one) where
  abbrev d : MasterData
  d = the_view c.core.inside

  valid_then : IsCore (record (the_view c.core.inside) { waiting = c.free_one.new.waiting.items })
  valid_then =
      subst (λ (ws : List Waiting). IsCore (record (the_view c.core.inside) { waiting = ws }))
      (sym c.free_one.ensures.items)
      (freed_core d c.core.invariant.2 (freed_one d.waiting)
      (freed_valid d.config.replicas d.waiting c.core.invariant.2.waiting))

pub invariant_of-core : goal.invariant_of-core
invariant_of-core c =
    let fewer = freed_less c.core.inside.waiting.items in
    let now = ap length c.free_one.ensures.items in (
      c.core.invariant.0,
      c.core.invariant.1,
      valid_then c,
      subst (λ (n : ℕ). IfSome c.core.inside.pass (λ p. p.is_committing ≡ true
          → length c.free_one.new.waiting.items + length p.victims ≤ n))
          (sym c.free_one.ensures.capacity)
          (room_left c.core.inside.pass (length c.core.inside.waiting.items) (length c.free_one.new.waiting.items)
          (vec_capacity c.core.inside.waiting) (omega arith) c.core.invariant.3),
      c.core.invariant.4,
    )

pub returns-clause-valid : goal.returns-clause-valid
returns-clause-valid c = valid_then c
