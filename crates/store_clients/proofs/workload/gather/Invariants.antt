use Rattle.std.proofs.Common.{◌≡◌, List, ◌++◌}
use Rattle.counted_calls.specs.locked_log.store_seat.Seats.{SeatValue}
use Rattle.store_clients.specs.Clients.{Matches}
use Rattle.store_clients.specs.Workloads.{IsBack}
use Rattle.store_clients.proofs.workload.gather.Given as goal

abbrev pub invariant-loop-one : goal.invariant-loop-one
invariant-loop-one g l =
    (served : List SeatValue) × (l.seats.items ≡ l.fn.seats.items ++ served) × Matches IsBack l.yielded served
