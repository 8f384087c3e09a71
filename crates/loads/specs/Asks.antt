-- What a try of a call does to its seat.
use Rattle.std.specs.Prelude.{◌≡◌, ◌≤◌, ◌+◌}
use Rattle.counted_calls.specs.locked_log.store_seat.Seats.{SeatValue}
use Rattle.loads.specs.declared.asking.Asked.{Asked}
use Rattle.loads.specs.declared.asking.Asked.TheVariants.{Answered, Refused, Left}

-- An answered call made one record. A refused one made none. One that was left made one or none.
abbrev pub HasAsked : SeatValue → Asked → SeatValue → Type 0
HasAsked m (Answered reply) n = (n.number ≡ m.number) × (n.count ≡ m.count + 1)
HasAsked m (Refused why) n = n ≡ m
HasAsked m (Left fault) n = (n.number ≡ m.number) × (m.count ≤ n.count)
