-- How a seat gets a record of its own again.
use Rattle.std.specs.Prelude.{◌≡◌, ◌≤◌, ℕ, List, Some, Result, Ok, Err, slice_get}
use Rattle.master_core.specs.master_state.declared.step.Refusal.TheVariants as refusal
use Rattle.versioned_map.specs.declared.command.Command.{Command}
use Rattle.versioned_map.specs.declared.command.Record.{Record}
use Rattle.versioned_map.specs.declared.command.Reply.{Reply}
use Rattle.history_row.specs.Receipts.{Told}
use Rattle.store_seat.specs.declared.fault.CallFault.{CallFault}
use Rattle.store_seat.specs.declared.fault.CallFault.TheVariants.{Refused, Unsure, SeatUnknown, CellRefused, NotYours}
use Rattle.store_seat.specs.declared.fault.CallFault.TheVariants.{CellsSpent}
use Rattle.store_seat.specs.Seats.{SeatValue, record_by, told, answered}
use Rattle.store_seat.specs.Stops.{StopsPush}

-- There is a record at the place, it is the seat's, it was made since the store was, whose first cell is at `start`,
-- and the place isn't below the seat's first number.
abbrev pub Owns : ℕ → List Record → SeatValue → ℕ → Type 0
Owns start records m place = (start ≤ place) × (m.first ≤ place)
    × ((what : Record) × (slice_get records place ≡ Some what) × (what.seat ≡ m.number))

-- the reply and the receipt are those of the record at this place, which is the seat's
pub record Hands (records : List Record) (m : SeatValue) (place : ℕ) (reply : Reply) (receipt : Told) : Type 0 where
  pub above : m.first ≤ place
  pub what : Record
  pub there : slice_get records place ≡ Some what
  pub mine : what.seat ≡ m.number
  pub reply_is : reply ≡ what.reply
  pub receipt_is : receipt ≡ told place what

-- The seat is handed the record, or memory ran out.
abbrev pub Claims : List Record → SeatValue → ℕ → Result (Reply × Told) CallFault → Type 0
Claims records m place (Ok r) = Hands records m place r.0 r.1
Claims records m place (Err (Refused e)) = ⊥
Claims records m place (Err (Unsure at e)) = (at ≡ place) × (e ≡ refusal.NoMemory)
Claims records m place (Err SeatUnknown) = ⊥
Claims records m place (Err CellRefused) = ⊥
Claims records m place (Err NotYours) = ⊥
Claims records m place (Err CellsSpent) = ⊥

-- ---- as the seat sees it

-- The place isn't below the seat's first number. The receipt is of this place, and names this seat and the reply.
abbrev pub IsOwn : SeatValue → ℕ → Reply → Told → Type 0
IsOwn m place reply receipt = (m.first ≤ place)
    × ((command : Command) × (receipt ≡ told place (record_by m.number command reply)))

abbrev pub ClaimsSeat : SeatValue → ℕ → Result (Reply × Told) CallFault → Type 0
ClaimsSeat m place (Ok r) = IsOwn m place r.0 r.1
ClaimsSeat m place (Err (Refused e)) = ⊥
ClaimsSeat m place (Err (Unsure at e)) = (at ≡ place) × (e ≡ refusal.NoMemory)
ClaimsSeat m place (Err SeatUnknown) = Unit {0}
ClaimsSeat m place (Err CellRefused) = Unit {0}
ClaimsSeat m place (Err NotYours) = Unit {0}
ClaimsSeat m place (Err CellsSpent) = ⊥

-- If the seat has a note of this place, as after a call that was left without an answer, the reply and the receipt are
-- those of the note.
abbrev pub IsAsNoted : SeatValue → ℕ → Reply → Told → Type 0
IsAsNoted m place reply receipt =
    (what : Record) → m.last ≡ Some (told place what) → (reply ≡ what.reply) × (receipt ≡ told place what)

-- A record of the seat is durable, and the seat was answered up to it. Its count and its share stay. A fault changes
-- nothing of the seat, and Unsure names the place again. An open failover is no reason for Unsure, since it is pushed
-- to its end.
abbrev pub SettlesSeat : SeatValue → ℕ → Result (Reply × Told) CallFault → SeatValue → Type 0
SettlesSeat m place (Ok r) n = IsOwn m place r.0 r.1 × IsAsNoted m place r.0 r.1 × (n ≡ answered m place)
SettlesSeat m place (Err (Refused e)) n = ⊥
SettlesSeat m place (Err (Unsure at e)) n = (at ≡ place) × StopsPush e × (n ≡ m)
SettlesSeat m place (Err SeatUnknown) n = n ≡ m
SettlesSeat m place (Err CellRefused) n = n ≡ m
SettlesSeat m place (Err NotYours) n = n ≡ m
SettlesSeat m place (Err CellsSpent) n = ⊥
