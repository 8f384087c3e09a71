-- What a store's book has of a seat.
use Rattle.std.specs.Prelude.{◌≡◌, ◌<◌, ◌≤◌, ◌+◌, ℕ, Some, List, slice_get, slice_set}
use Rattle.versioned_map.specs.declared.command.Record.{Record}
use Rattle.store_seat.specs.declared.account.Account.{Account}
use Rattle.store_seat.specs.Seats.{SeatValue, answered}

abbrev pub account : ℕ → ℕ → Account
account first count = record { first = first; count = count }

-- the book's numbers of the seat are the seat's own
abbrev pub Knows : List Account → SeatValue → Type 0
Knows book m = slice_get book m.number ≡ Some (account m.first m.count)

-- the seat is answered up to a durable place, in the book too
abbrev pub SettlesIn : List Account → SeatValue → ℕ → ℕ → List Account → SeatValue → Type 0
SettlesIn book m place durable next n = (place < durable) × Knows book m
    × (next ≡ slice_set book m.number (account (place + 1) m.count)) × (n ≡ answered m place)

-- nothing changes: the place isn't durable, or the book's numbers of the seat aren't the seat's own
abbrev pub SettlesNothingIn : List Account → SeatValue → ℕ → ℕ → List Account → SeatValue → Type 0
SettlesNothingIn book m place durable next n = (place < durable → Knows book m → ⊥) × (next ≡ book) × (n ≡ m)

-- ---- records that can be settled

-- The record at this place is of a seat that the book has, and isn't below the seat's first number.
abbrev pub IsOpen : List Account → List Record → ℕ → Type 0
IsOpen book records place = (a : Account) × (r : Record) × (slice_get records place ≡ Some r)
    × (slice_get book r.seat ≡ Some a) × (a.first ≤ place)

-- Below n no seat can still settle a record of its own. Those below `start` were made before the store.
abbrev pub IsSettled : ℕ → List Account → List Record → ℕ → Type 0
IsSettled start book records n = (place : ℕ) → start ≤ place → place < n → IsOpen book records place → ⊥
