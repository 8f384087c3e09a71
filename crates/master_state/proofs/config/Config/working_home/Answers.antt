use Rattle.std.proofs.Common.{◌≡◌, ℕ, suc, ◌-◌, ◌<◌, List, length, sym, ap, subst, ◌∙◌, arith}
use Rattle.log_head.specs.log_laws.Ids.{has}
use Rattle.master_state.proofs.Homes.{item, order_gone, order_stays}
use Rattle.master_state.proofs.config.Config.working_home.Goals as goal

pub loop-place-preserved-then-has : goal.loop-place-preserved-then-has
loop-place-preserved-then-has c =
    let was = c.loop-place.invariant in
    let test = c.loop-place-test.true in
    let end = c.loop-place.auto.place-end in
    let same = order_gone c.args.self.now c.args.failed.now c.args.segment c.loop-place.place (omega arith) c.has.result
    (ap (has c.args.failed.now) (sym c.backup_at-backup.ensures) ∙ sym c.has.ensures) c.if-has.true in (
      omega arith,
      subst (λ (bs : List ℕ). c.loop-place.left < length bs) same was.1,
      ap (λ (bs : List ℕ). item bs c.loop-place.left) (sym same) ∙ was.2,
    )

pub returns-then-left-eq0 : goal.returns-then-left-eq0
returns-then-left-eq0 c =
    let was = c.loop-place.invariant in
    let test = c.loop-place-test.true in
    let end = c.loop-place.auto.place-end in
    let same = order_stays c.args.self.now c.args.failed.now c.args.segment c.loop-place.place (omega arith)
    c.has.result (ap (has c.args.failed.now) (sym c.backup_at-backup.ensures) ∙ sym c.has.ensures) c.if-has.false in
    let first = c.if-left-eq0.true in
    c.backup_at-backup.ensures
    ∙ (λ i. item (sym same i) (sym first i))
    ∙ was.2

pub loop-place-preserved : goal.loop-place-preserved
loop-place-preserved c =
    let was = c.loop-place.invariant in
    let test = c.loop-place-test.true in
    let end = c.loop-place.auto.place-end in
    let same = order_stays c.args.self.now c.args.failed.now c.args.segment c.loop-place.place (omega arith)
    c.has.result (ap (has c.args.failed.now) (sym c.backup_at-backup.ensures) ∙ sym c.has.ensures) c.if-has.false in
    let some = c.if-left-eq0.false in
    let few = was.1 in
    let longer = ap (λ (bs : List ℕ). length bs) same in
    let next : suc (c.loop-place.left - 1) ≡ c.loop-place.left = omega arith in (
      omega arith,
      omega arith,
      (λ i. item (sym same i) (next i)) ∙ was.2,
    )
