use Rattle.std.proofs.Common.{arith}
use Rattle.master_state.proofs.Homes.{working_many}
use Rattle.master_state.proofs.state.Core.place_of.Goals as goal

pub place_in-requires-clause-replicas : goal.place_in-requires-clause-replicas
place_in-requires-clause-replicas c =
    let core = c.self.invariant.2 in
    let few = core.head.opened in
    let same = core.replicas in
    let count = c.opened.ensures in
    let many = working_many c.self.inside.config c.self.inside.failed c.id.result c.self.inside.config.replicas
    core.failed.few in
    omega arith
