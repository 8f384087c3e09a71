-- What becomes of the seats of threads.
use Rattle.std.specs.Prelude.{◌≡◌, ◌≤◌, ℕ, ◌+◌, IfOk, IfSome}
use Rattle.counted_calls.specs.locked_log.store_seat.Seats.{SeatValue}
use Rattle.loads.specs.declared.client.Promised.{Promised}
use Rattle.loads.specs.declared.client.Thread.{Thread}

-- What a thread promised of its seat: it has the same number and at least as many records. If all its operations were
-- answered, it has just so many records more as calls were answered.
pub record IsKept {B : Type 0} (p : Promised) (t : Thread B) : Type 0 where
  pub seat : IfSome t.seat (λ (s : SeatValue). (s.number ≡ p.number) × (p.count ≤ s.count))
  pub counted : IfOk t.calls
      (λ (n : ℕ). IfSome t.seat (λ (s : SeatValue). s.count ≡ p.count + n))
