-- What is done under the lock, as the seat sees it.
use Rattle.std.proofs.Common.{◌≡◌, ◌∙◌, sym, ℕ, Bool, true, false, List, Ok, Err, ⊎_elim, inl, inr}
use Rattle.std.specs.Prelude.{Result, MatchBool}
use Rattle.versioned_map.specs.declared.command.Command.{Command}
use Rattle.versioned_map.specs.declared.command.Record.{Record}
use Rattle.versioned_map.specs.declared.command.Reply.{Reply}
use Rattle.store_seat.specs.declared.fault.CallFault.{CallFault}
use Rattle.store_seat.specs.declared.fault.CallFault.TheVariants.{Refused, Unsure, SeatUnknown, CellRefused, NotYours}
use Rattle.store_seat.specs.declared.fault.CallFault.TheVariants.{CellsSpent}
use Rattle.store_seat.specs.Calls.{AppliesSeat}
use Rattle.store_seat.specs.Seats.{SeatValue, told, answered}
use Rattle.history_row.specs.Receipts.{Told}
use Rattle.store_seat.specs.Claims.{ClaimsSeat, Hands, IsOwn}
use Rattle.locked_log.specs.Applies.{AppliesHeld, ClaimsHeld, Settles, DoesNotSettle, WaitsForRoll}
use Rattle.locked_log.specs.Held.{Held, history}
use Rattle.locked_log.proofs.Stopping.{command_refuses}

pub seat_of : (s t : Held) (m n : SeatValue) (command : Command) (r : Result (ℕ × Reply) CallFault)
    → AppliesHeld s m command r t n → (WaitsForRoll s m command → ⊥) → AppliesSeat m command r n
seat_of s t m n command (Ok r) h waits = (h.counts.first, h.seat)
seat_of s t m n command (Err (Refused e)) h waits = (
  command_refuses s.world t.world m.number command e h.0 (λ rolling. waits (h.1, h.2, rolling)),
  h.4,
)
seat_of s t m n command (Err (Unsure place e)) h waits = h
seat_of s t m n command (Err SeatUnknown) h waits = h.3
seat_of s t m n command (Err CellRefused) h waits = ⊎_elim (λ x. inl x.2) (λ x. inr x.2.seat) h
seat_of s t m n command (Err NotYours) h waits = h
seat_of s t m n command (Err CellsSpent) h waits = h.5

own_of : (records : List Record) (m : SeatValue) (place : ℕ) (reply : Reply) (receipt : Told)
    → Hands records m place reply receipt → IsOwn m place reply receipt
own_of records m place reply receipt h = (
  h.above,
  (
    h.what.command,
    h.receipt_is
        ∙ (λ i. told place (record { seat = h.mine i; command = h.what.command; reply = sym h.reply_is i })),
  ),
)

pub claim_of : (s : Held) (m : SeatValue) (place : ℕ) (r : Result (Reply × Told) CallFault) → ClaimsHeld s m place r
    → ClaimsSeat m place r
claim_of s m place (Ok r) h = own_of (history s) m place r.0 r.1 h.2
claim_of s m place (Err (Refused e)) h = h
claim_of s m place (Err (Unsure at e)) h = (h.3, h.4)
claim_of s m place (Err SeatUnknown) h = tt
claim_of s m place (Err CellRefused) h = tt
claim_of s m place (Err NotYours) h = tt
claim_of s m place (Err CellsSpent) h = h

pub settle_of : (s t : Held) (m n : SeatValue) (place : ℕ) (r : Bool)
    → MatchBool r (Settles s m place t n) (DoesNotSettle s m place t n)
    → MatchBool r (n ≡ answered m place) (n ≡ m)
settle_of s t m n place true h = h.3
settle_of s t m n place false h = h.2
