-- What becomes of clients.
use Rattle.std.specs.Prelude.{◌≡◌, ◌≤◌, ℕ, ◌+◌, ◌*◌, Some, List, length, slice_get, IfOk, IfSome}
use Rattle.counted_calls.specs.locked_log.store_seat.Seats.{SeatValue}
use Rattle.store_clients.specs.declared.client.Client.{Client}
use Rattle.store_clients.specs.declared.client.Rounds.{Rounds}

-- ---- a client

-- The same seat, with more records or as many, all of them counted in its share.
pub record IsSeatOf (m n : SeatValue) : Type 0 where
  pub number : n.number ≡ m.number
  pub parts : n.parts ≡ m.parts
  pub count : m.count ≤ n.count
  pub amount : n.amount + m.count ≡ m.amount + n.count

-- The seat's count of records and its share rose by just this.
pub record HasMade (made : ℕ) (m n : SeatValue) : Type 0 where
  pub count : n.count ≡ m.count + made
  pub amount : n.amount ≡ m.amount + made

-- If a client answers a count, that is twice the rounds, and its seat made just this many records. A seat that comes
-- back is the seat that was given.
pub record IsClient {B : Type 0} (rounds : ℕ) (m : SeatValue) (c : Client B) : Type 0 where
  pub accepted : IfOk c.calls
      (λ (n : ℕ). (n ≡ 2 * rounds) × (s : SeatValue) × (c.seat ≡ Some s) × HasMade n m s)
  pub seat : IfSome c.seat (IsSeatOf m)

-- ---- several

-- The lists have the same length, and the values at each place are related by R.
pub record Matches {A B : Type 0} (R : A → B → Type 0) (xs : List A) (ys : List B) : Type 0 where
  pub count : length ys ≡ length xs
  pub each : (k : ℕ) (a : A) → slice_get xs k ≡ Some a → (b : B) × (slice_get ys k ≡ Some b) × R a b

-- the clients of these seats, in their order
abbrev pub AreClients : {B : Type 0} → ℕ → List SeatValue → List (Client B) → Type 0
AreClients rounds seats clients = Matches (IsClient rounds) seats clients

-- ---- while they run

-- what a thread is started with: how many rounds, and the numbers of its seat
pub record IsAsked (rounds : ℕ) (m : SeatValue) (r : Rounds) : Type 0 where
  pub is : r ≡ record { rounds = rounds; number = m.number; count = m.count }
  pub share : (m.parts ≡ 1) × (m.amount ≡ m.count)

-- what a thread promised, and what the type of a seat says
pub record IsKept {B : Type 0} (r : Rounds) (c : Client B) : Type 0 where
  pub accepted : IfOk c.calls
      (λ (n : ℕ). (n ≡ 2 * r.rounds) × (s : SeatValue) × (c.seat ≡ Some s) × (s.count ≡ r.count + n))
  pub seat : IfSome c.seat
      (λ (s : SeatValue). (s.number ≡ r.number) × (r.count ≤ s.count) × (s.parts ≡ 1) × (s.amount ≡ s.count))
