-- Sums over seats.
use Rattle.std.proofs.Common.{◌≡◌, ◌+◌, List, [], ◌∷◌, ◌++◌, arith}
use Rattle.store_seat.specs.Seats.{SeatValue, parts_of, amounts_of}

pub parts_push : (ms : List SeatValue) (m : SeatValue) → parts_of (ms ++ m ∷ []) ≡ parts_of ms + m.parts
parts_push [] m = omega arith
parts_push (x ∷ ms) m = omega (arith, parts_push ms m)

pub amounts_push : (ms : List SeatValue) (m : SeatValue) → amounts_of (ms ++ m ∷ []) ≡ amounts_of ms + m.amount
amounts_push [] m = omega arith
amounts_push (x ∷ ms) m = omega (arith, amounts_push ms m)
