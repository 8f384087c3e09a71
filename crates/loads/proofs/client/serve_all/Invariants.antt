use Rattle.std.proofs.Common.{◌≡◌, ◌≤◌, ◌+◌, ◌*◌}
use Rattle.loads.proofs.client.serve_all.Given as goal

abbrev pub invariant-loop-done : goal.invariant-loop-done
invariant-loop-done g l =
    (l.seat.number ≡ l.fn.seat.number) × (l.seat.count ≡ l.fn.seat.count + l.calls) × (l.calls ≤ 2 * l.done)
