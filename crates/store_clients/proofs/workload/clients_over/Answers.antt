use Rattle.std.proofs.Common.{arith}
use Rattle.store_clients.proofs.Counts.{fits}
use Rattle.store_clients.proofs.workload.clients_over.Goals as goal

pub overflow_mul-calls-2 : goal.overflow_mul-calls-2
overflow_mul-calls-2 g c =
    omega (arith, fits c.args.work.rounds c.args.work.clients c.requires.rounds c.requires.clients)
