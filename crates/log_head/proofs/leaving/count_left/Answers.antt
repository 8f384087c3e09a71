use Rattle.std.proofs.Common.{sym, ap, ◌∙◌, length, arith}
use Rattle.entry.specs.View.{shown_ids}
use Rattle.log_head.proofs.Digests.{left_same, left_next}
use Rattle.log_head.proofs.leaving.count_left.Goals as goal
use Rattle.log_head.proofs.leaving.count_left.Goals.{then-not-is_victim, else-not-is_victim}

pub loop-place-preserved : goal.loop-place-preserved
loop-place-preserved c =
    let before = c.loop-place.invariant.left in
    let few = c.loop-place.invariant.few in
    elim c.if-not-is_victim.branch [
      | then-not-is_victim w ↦
          let same = w.left-is in
          let step = ap length (left_next c.args.victims.now
          (shown_ids c.args.digest.now) c.loop-place.place c.id.result c.id.ensures
          (sym c.is_victim.ensures ∙ w.if-not-is_victim.true)) in
          record { left = omega arith; few = omega arith }
      | else-not-is_victim w ↦
          let same = w.left-is in
          let step = ap length (left_same c.args.victims.now
          (shown_ids c.args.digest.now) c.loop-place.place c.id.result c.id.ensures
          (sym c.is_victim.ensures ∙ w.if-not-is_victim.false)) in
          record { left = omega arith; few = omega arith }
    ]
