use Rattle.std.proofs.Common.{ap, arith}
use Rattle.master_state.specs.Data.{MasterData}
use Rattle.master_state.proofs.Homes.{home_below, working_many}
use Rattle.master_state.proofs.Refusals.{has_homes}
use Rattle.master_state.proofs.state.Core.home.Goals as goal

pub home-requires-clause-replica : goal.home-requires-clause-replica
home-requires-clause-replica c =
    let many = working_many c.self.inside.config c.self.inside.failed c.args.segment c.self.inside.config.replicas
    c.self.invariant.2.failed.few in
    let same = ap (λ (m : MasterData). m.config.replicas) c.self.view_is in
    let lt = c.requires in
    omega arith

pub returns-clause-there : goal.returns-clause-there
returns-clause-there c =
    let many = working_many c.self.inside.config c.self.inside.failed c.args.segment c.self.inside.config.replicas
    c.self.invariant.2.failed.few in
    let same = ap (λ (m : MasterData). m.config.replicas) c.self.view_is in
    let lt = c.requires in
    let homes = has_homes c.self.inside.config c.self.invariant.2.config in
    let some = homes.some in
    let enough = homes.many in
    let below = home_below c.self.inside.config c.self.inside.failed c.args.segment c.args.replica (omega arith)
    (omega arith) in
    let all = ap (λ (m : MasterData). m.config.backups) c.self.view_is in
    let own = c.home.ensures in
    omega arith
