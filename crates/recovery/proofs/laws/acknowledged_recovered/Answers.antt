use Rattle.std.proofs.Common.{arith}
use Rattle.recovery.proofs.laws.acknowledged_recovered.Goals as goal

pub returns : goal.returns
returns c = λ d r answered found durable place acknowledged.
    let below = durable acknowledged.0 acknowledged.1 in
    let late = acknowledged.2 in
    let within = found.holds in omega arith
