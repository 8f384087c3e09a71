use Rattle.std.proofs.Common.{◌≡◌, ℕ, ◌+◌, ◌-◌, true, length, sym, ap, ◌∙◌, arith}
use Rattle.std.specs.Prelude.{nat_le, ◌≤◌}
use Rattle.master_state.specs.contracts.state.Core.{the_view}
use Rattle.master_state.specs.Budget.{newest_digest, most_segments}
use Rattle.master_state.specs.Data.{MasterData}
use Rattle.master_state.proofs.LogIds.{few_closed, few_survivors}
use Rattle.master_state.proofs.PassIds.{head_count, heads_of, newest_count}
use Rattle.master_space.proofs.victims.has_places_for.Goals as goal
use Rattle.master_space.proofs.victims.has_places_for.Goals.{then-is_some, else-is_some}

pub overflow_add-listed : goal.overflow_add-listed
overflow_add-listed c =
    let few = few_closed (the_view c.core.inside) c.core.invariant.2 in
    let four = few_survivors (the_view c.core.inside) c.core.invariant.2 in
    let count = c.len.ensures in
    elim c.if-is_some.branch [
      | then-is_some w ↦ (let heads = w.heads-is in omega (arith, few, four, count, heads))
      | else-is_some w ↦ (let heads = w.heads-is in omega (arith, few, four, count, heads))
    ]

module _ (c : goal.After-saturating_sub) where
  left_few : c.saturating_sub.result + c.args.survivors ≤ 4294967316
  left_few =
      let few = few_closed (the_view c.core.inside) c.core.invariant.2 in
      let four = few_survivors (the_view c.core.inside) c.core.invariant.2 in
      let count = c.len.ensures in
      let left = c.saturating_sub.ensures in
      let most = c.requires.few in
      elim c.if-is_some.branch [
        | then-is_some w ↦ (let heads = w.heads-is in omega (arith, few, four, count, left, heads, most))
        | else-is_some w ↦ (let heads = w.heads-is in omega (arith, few, four, count, left, heads, most))
      ]

pub overflow_add-result : goal.overflow_add-result
overflow_add-result c = let few = left_few c in omega (arith, few)

pub overflow_add-result-2 : goal.overflow_add-result-2
overflow_add-result-2 c = let few = left_few c in omega (arith, few)

pub returns : goal.returns
returns c =
    let d = the_view c.core.inside in
    let none = ap (λ (m : MasterData). m.pass) c.core.view_is ∙ c.requires.none in
    let heads : c.if-is_some.heads ≡ head_count d.head.roll = elim c.if-is_some.branch [
      | then-is_some w ↦ w.heads-is ∙ sym (heads_of d.head.roll c.roll.result true c.roll.ensures
          (sym c.is_some.ensures ∙ w.if-is_some.true))
      | else-is_some w ↦ w.heads-is ∙ sym (heads_of d.head.roll c.roll.result _ c.roll.ensures
          (sym c.is_some.ensures ∙ w.if-is_some.false))
    ] in
    let count : length (newest_digest d.head) ≡ c.len.result + c.if-is_some.heads =
    newest_count d c.core.invariant.2 none ∙ (λ i. sym c.len.ensures i + sym heads i) in
    let listed : c.saturating_sub.result ≡ length (newest_digest d.head) - c.args.victims =
    c.saturating_sub.ensures ∙ ap (λ (n : ℕ). n - c.args.victims) (sym count) in
    rw (← c.core.view_is) (λ i. nat_le (listed i + c.args.survivors + 1) (most_segments d.config))
