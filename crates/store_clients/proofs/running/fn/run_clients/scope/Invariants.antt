use Rattle.store_clients.specs.Clients.{IsAsked, IsKept, Matches}
use Rattle.store_clients.proofs.running.fn.run_clients.scope.Given as goal

abbrev pub invariant-loop-seat : goal.invariant-loop-seat
invariant-loop-seat g l = Matches (IsAsked l.rounds) l.yielded l.started.items

abbrev pub invariant-loop-one : goal.invariant-loop-one
invariant-loop-one g l = Matches IsKept l.yielded l.clients.items
