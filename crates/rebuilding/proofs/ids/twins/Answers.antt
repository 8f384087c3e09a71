use Rattle.std.proofs.Common.{◌+◌, subst, sym, ◌∙◌, arith}
use Rattle.rebuilding.specs.Rebuilds.{ids_of}
use Rattle.rebuilding.proofs.Twins.{IsLooking, looked_first, looked_above, looked_new}
use Rattle.rebuilding.proofs.ids.twins.Goals.{then-id-greatest, else-id-greatest+in_default}
use Rattle.rebuilding.proofs.ids.twins.Goals as goal

pub loop-at-init : goal.loop-at-init
loop-at-init c = looked_first (ids_of c.args.segments.now) 0

pub loop-at-preserved : goal.loop-at-preserved
loop-at-preserved c =
    let ids = ids_of c.args.segments.now in
    let at = c.loop-at.at in
    elim c.if-id-greatest.branch as (λ _. IsLooking ids (at + 1) c.if-id-greatest.greatest) [
      | then-id-greatest w ↦ subst (IsLooking ids (at + 1)) (sym (w.greatest-is ∙ c.id_at-id.ensures))
          (looked_above ids at c.loop-at.greatest c.loop-at.invariant
          (let on = w.if-id-greatest.true in let is = c.id_at-id.ensures in omega (arith, on, is)))
      | else-id-greatest+in_default w ↦ subst (IsLooking ids (at + 1)) (sym w.greatest-is)
          (looked_new ids at c.loop-at.greatest c.loop-at.invariant
          (let off = w.if-id-greatest.false in let is = c.id_at-id.ensures in omega (arith, off, is))
          (λ i lt same. w.in_default.ensures.none i lt (same ∙ sym c.id_at-id.ensures)))
    ]
