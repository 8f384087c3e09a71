use Rattle.std.proofs.Common.{◌≡◌, ◌+◌, ◌<◌, ℕ, suc, false, List, length, get_or, set, sym, ap, ◌∙◌, arith}
use Rattle.tally.specs.declared.tallies.Tally.{Tally}
use Rattle.tally.specs.Rows.{staled}
use Rattle.tally.proofs.Fronts.{staled_front, front_none, front_all, front_at, front_next}
use Rattle.tally.proofs.placing.stale.Goals as goal

pub loop-row-init : goal.loop-row-init
loop-row-init c = sym (front_none c.args.rows.now)

pub loop-row-preserved : goal.loop-row-preserved
loop-row-preserved c =
    let rows = c.args.rows.now in
    let at = c.loop-row.row-index in
    let y = c.staled.result in
    let same : c.loop-row.rows ≡ staled_front rows at = c.loop-row.invariant in
    let lt : at < length rows = omega (arith, c.loop-row-test.true) in
    let next : suc at ≡ at + 1 = omega arith in
    let d : Tally = record { segment = 0; live = 0; stones = 0; is_fresh = false } in
    let is : y ≡ staled (get_or rows at d) =
    c.staled.ensures ∙ ap (λ (xs : List Tally). staled (get_or xs at d)) same ∙ ap staled (front_at rows at d) in
    ap (λ (xs : List Tally). set xs at y) same
    ∙ front_next rows at d y lt is
    ∙ ap (λ (n : ℕ). staled_front rows n) next

pub returns : goal.returns
returns c =
    c.loop-row.invariant
    ∙ front_all c.args.rows.now c.loop-row.row-index (omega (arith, c.loop-row-test.false))
