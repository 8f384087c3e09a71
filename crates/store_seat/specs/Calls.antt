-- What a call does to its seat, whatever lay under the lock.
use Rattle.std.specs.Prelude.{◌≡◌, ◌≤◌, ◌+◌, ◌⊎◌, ℕ, Result, Ok, Err, nat_lt, if◌then◌else◌}
use Rattle.versioned_map.specs.declared.command.Command.{Command}
use Rattle.versioned_map.specs.declared.command.Reply.{Reply}
use Rattle.history_row.specs.Receipts.{Told}
use Rattle.store_seat.specs.declared.fault.CallFault.{CallFault}
use Rattle.store_seat.specs.declared.fault.CallFault.TheVariants.{Refused, Unsure, SeatUnknown, CellRefused, NotYours}
use Rattle.store_seat.specs.declared.fault.CallFault.TheVariants.{CellsSpent}
use Rattle.store_seat.specs.Seats.{SeatValue, record_by, told, noted, unnoted, answered}
use Rattle.store_seat.specs.Stops.{StopsPush, RefusesCall}

-- What a command under the lock does to its seat.
abbrev pub AppliesSeat : SeatValue → Command → Result (ℕ × Reply) CallFault → SeatValue → Type 0
AppliesSeat m command (Ok r) n = (m.first ≤ r.0) × (n ≡ noted m (told r.0 (record_by m.number command r.1)))
AppliesSeat m command (Err (Refused e)) n = RefusesCall e × (n ≡ m)
AppliesSeat m command (Err (Unsure place e)) n = ⊥
AppliesSeat m command (Err SeatUnknown) n = n ≡ m
AppliesSeat m command (Err CellRefused) n = (n ≡ m) ⊎ (n ≡ unnoted m)
AppliesSeat m command (Err NotYours) n = ⊥
AppliesSeat m command (Err CellsSpent) n = n ≡ m

-- The call made one record. The receipt names this seat, this command and the reply, at a place above all that the seat
-- was answered or shown before.
pub record Answers (m : SeatValue) (command : Command) (reply : Reply) (receipt : Told) (n : SeatValue) : Type 0 where
  pub receipt_is : receipt ≡ told receipt.place (record_by m.number command reply)
  pub above : m.first ≤ receipt.place
  pub seat : n ≡ answered (noted m receipt) receipt.place

-- One record was made at this place. The seat has a note of it, and no call has answered it.
pub record LeavesUnsure (m : SeatValue) (command : Command) (place : ℕ) (n : SeatValue) : Type 0 where
  pub reply : Reply
  pub above : m.first ≤ place
  pub seat : n ≡ noted m (told place (record_by m.number command reply))

-- At most one record was made, and the seat's share counts it.
pub record LeavesRefused (m n : SeatValue) : Type 0 where
  pub number : n.number ≡ m.number
  pub first : n.first ≡ m.first
  pub least : m.count ≤ n.count
  pub most : n.count ≤ m.count + 1
  pub parts : n.parts ≡ m.parts
  pub amount : n.amount + m.count ≡ m.amount + n.count
  pub mark : n.mark ≡ m.mark

-- A call pushes rolls and failovers to their end, so neither is a reason to refuse it or to leave its record
-- unanswered.
abbrev pub Calls : SeatValue → Command → Result (Reply × Told) CallFault → SeatValue → Type 0
Calls m command (Ok r) n = Answers m command r.0 r.1 n
Calls m command (Err (Refused e)) n = RefusesCall e × (n ≡ m)
Calls m command (Err (Unsure place e)) n = StopsPush e × LeavesUnsure m command place n
Calls m command (Err SeatUnknown) n = n ≡ m
Calls m command (Err CellRefused) n = LeavesRefused m n
Calls m command (Err NotYours) n = ⊥
Calls m command (Err CellsSpent) n = n ≡ m

-- the ways in which a record can be left without an answer
abbrev pub IsLeft : ℕ → CallFault → Type 0
IsLeft place (Refused e) = ⊥
IsLeft place (Unsure at e) = (at ≡ place) × StopsPush e
IsLeft place SeatUnknown = ⊥
IsLeft place CellRefused = Unit {0}
IsLeft place NotYours = ⊥
IsLeft place CellsSpent = ⊥

-- the seat after it was shown this place
abbrev pub met : SeatValue → ℕ → SeatValue
met m place = if nat_lt place m.first then m else answered m place
