use Rattle.std.proofs.Common.{arith}
use Rattle.master_state.proofs.Refusals.{sizes_of}
use Rattle.master_state.proofs.state.Core.used.Goals as goal

pub overflow_add-head : goal.overflow_add-head
overflow_add-head c =
    let sizes = sizes_of c.self.inside.config c.self.invariant.2.config in
    let least = sizes.least_seglets in
    let most = sizes.most_seglets in
    let small = c.closing_seglets.ensures.small in
    omega arith
