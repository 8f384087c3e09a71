use Rattle.std.proofs.Common.{subst, sym}
use Rattle.rebuilding.specs.declared.order.GroupOrder.{GroupOrder}
use Rattle.rebuilding.specs.declared.order.GroupOrder.TheVariants.{Forward, Reverse}
use Rattle.rebuilding.specs.Orders.{order_of}
use Rattle.rebuilding.specs.Rebuilds.{IsRebuildFault, count_of}
use Rattle.rebuilding.proofs.Twins.{names_forward, names_reverse}
use Rattle.rebuilding.proofs.order.unwritten.Goals as goal

pub returns-in-Forward : goal.returns-in-Forward
returns-in-Forward c =
    let segments = c.args.segments.now in
    let qs = c.args.will.now in
    let count = count_of segments qs in
    subst (λ (o : GroupOrder). IsRebuildFault segments qs (order_of o count) c.want_of_whole.result)
    (sym c.in-Forward.is) (c.want_of_whole.ensures (order_of Forward count) (names_forward count))

pub returns-in-Reverse : goal.returns-in-Reverse
returns-in-Reverse c =
    let segments = c.args.segments.now in
    let qs = c.args.will.now in
    let count = count_of segments qs in
    subst (λ (o : GroupOrder). IsRebuildFault segments qs (order_of o count) c.want_of_whole-in-Reverse.result)
    (sym c.in-Reverse.is) (c.want_of_whole-in-Reverse.ensures (order_of Reverse count) (names_reverse count))
