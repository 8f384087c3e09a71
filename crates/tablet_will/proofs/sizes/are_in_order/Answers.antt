use Rattle.std.proofs.Common.{◌≡◌, ◌-◌, ◌+◌, suc, sym, ◌∙◌, arith}
use Rattle.entry.specs.declared.tablet.Size.{Size}
use Rattle.tablet_will.proofs.Sorted.{order_step, order_end}
use Rattle.tablet_will.proofs.sizes.are_in_order.Goals as goal

pub loop-i-preserved : goal.loop-i-preserved
loop-i-preserved c =
    let ss = c.args.sizes.now in
    let i = c.loop-i.i in
    let d : Size = record { table = 0; place = 0; bytes = 0 } in
    let next : suc (i - 1) ≡ i = omega arith in
    let place : i + 1 - 1 ≡ i = omega arith in
    let step = order_step ss (i - 1) i d next c.loop-i-test.true (sym c.is_up_to.ensures ∙ c.if-not-is_up_to.false) in
    rw place (sym step ∙ c.loop-i.invariant)

pub returns : goal.returns
returns c = sym (sym c.loop-i.invariant ∙ order_end c.args.sizes.now c.loop-i.i c.loop-i-test.false)
