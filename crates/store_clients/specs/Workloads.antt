-- What clients make of a master.
use Rattle.std.specs.Prelude.{◌≡◌, ℕ, ◌+◌, ◌*◌, Some, IsOk}
use Rattle.counted_calls.specs.locked_log.store_seat.Seats.{SeatValue}
use Rattle.store_clients.specs.declared.client.Client.{Client}

-- ---- seats that come back

-- the client's seat came back, and all its calls were accepted
pub record IsBack {B : Type 0} (c : Client B) (s : SeatValue) : Type 0 where
  pub seat : c.seat ≡ Some s
  pub accepted : IsOk c.calls

-- the same seat with twice the rounds more records
abbrev pub HasServed : ℕ → SeatValue → SeatValue → Type 0
HasServed rounds m s = (s.number ≡ m.number) × (s.count ≡ m.count + 2 * rounds)
