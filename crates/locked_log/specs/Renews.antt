-- A store that is paused, and the store that goes on from there.
use Rattle.std.specs.Prelude.{◌≡◌, ◌≤◌, ℕ, Option, Some, List, drop, length, slice_get}
use Rattle.history.specs.Seats.{count_of, AreOfSeats}
use Rattle.history_row.specs.Receipts.{Told}
use Rattle.history_row.specs.Rows.{IsRowOf}
use Rattle.mark_word.specs.Marks.{nothing}
use Rattle.versioned_map.specs.declared.command.Record.{Record}
use Rattle.store_step.specs.master.log_laws.Data.{durable_of}
use Rattle.store_step.specs.master.master_state.Log.{log_of}
use Rattle.store_step.specs.master.World.{MasterValue, World}
use Rattle.store_step.specs.master.Valid.{IsValid}
use Rattle.locked_log.specs.Ends.{fresh_book}
use Rattle.store_seat.specs.declared.account.Account.{Account}
use Rattle.store_seat.specs.Accounts.{account}
use Rattle.store_seat.specs.Claims.{Owns}
use Rattle.store_seat.specs.Seats.{SeatValue}

-- ---- a pause

-- What a contract sees of a paused store: its master, what its book had of each seat, and the place from which on the
-- next store has a cell for each record.
pub record PausedValue (F : Type 0) : Type 0 where
  pub master : MasterValue F
  pub book : List Account
  pub start : ℕ

-- this many seats over this master, which have no record to settle
abbrev pub paused_at : {F : Type 0} → MasterValue F → ℕ → PausedValue F
paused_at master seats = record {
  master = master;
  book = fresh_book (durable_of (log_of master.knows)) seats;
  start = length master.knows.history;
}

-- The master is valid, and has not forgotten a record from `start` on. These records are of seats that the book has,
-- and no first number is above the durable count.
pub record IsPaused (w : World) (book : List Account) (start : ℕ) : Type 0 where
  pub valid : IsValid w.knows w.fleet
  pub within : start ≤ length w.knows.history
  pub kept : w.knows.forgotten ≤ start
  pub firsts : (k : ℕ) (a : Account) → slice_get book k ≡ Some a → a.first ≤ durable_of (log_of w.knows)
  pub of_seats : AreOfSeats (length book) (drop start w.knows.history)

-- The book has each of these seats with its first number, and each record that one of them owns has a cell in the next
-- store.
abbrev pub AreKept : ℕ → List Record → List Account → ℕ → List SeatValue → Type 0
AreKept before records book start seats = (k : ℕ) (m : SeatValue) → slice_get seats k ≡ Some m
    → (slice_get book m.number ≡ Some (account m.first m.count))
    × ((place : ℕ) → Owns before records m place → start ≤ place)

-- ---- a renewal

-- the seat of this number and account; it has made its records among these
abbrev pub seat_again : ℕ → Account → List Record → Option Told → SeatValue
seat_again number a records last = record {
  number = number;
  first = a.first;
  count = count_of number records;
  parts = 1;
  amount = count_of number records;
  last = last;
  mark = nothing;
}

-- Each seat of the book is there again, under its number and with its first number. It counts its own among these
-- records.
pub record AreSeatsAgain (book : List Account) (records : List Record) (seats : List SeatValue) : Type 0 where
  pub count : length seats ≡ length book
  pub each : (k : ℕ) (a : Account) → slice_get book k ≡ Some a
      → (last : Option Told) × (slice_get seats k ≡ Some (seat_again k a records last))

-- The book has the accounts of the old one, with their first numbers and without a record.
pub record IsOpenedAgain (old book : List Account) : Type 0 where
  pub count : length book ≡ length old
  pub each : (k : ℕ) (a : Account) → slice_get old k ≡ Some a → slice_get book k ≡ Some (account a.first 0)

-- The cells, the new book, the ledger and the seats have these records. Each first number is that of the old book.
pub record AreFiled (old : List Account) (records : List Record) (row : List (Option Record)) (book : List Account)
    (total : ℕ) (seats : List SeatValue) : Type 0 where
  pub written : IsRowOf row records
  pub accounts : length book ≡ length old
  pub counts : (k : ℕ) (a : Account) → slice_get old k ≡ Some a
      → slice_get book k ≡ Some (account a.first (count_of k records))
  pub seated : AreSeatsAgain old records seats
  pub sum : total ≡ length records
