-- What is true whenever the lock is free.
use Rattle.std.specs.Prelude.{◌≡◌, ◌≤◌, ℕ, Bool, true, false, Option, Some, List, length, take, slice_get}
use Rattle.history.specs.Seats.{count_of, AreOfSeats}
use Rattle.versioned_map.specs.declared.command.Record.{Record}
use Rattle.history_row.specs.Rows.{IsRowOf}
use Rattle.store_step.specs.master.Keeps.{Keeps}
use Rattle.store_step.specs.master.Valid.{IsValid}
use Rattle.store_seat.specs.declared.account.Account.{Account}
use Rattle.store_seat.specs.Accounts.{IsSettled}
use Rattle.locked_log.specs.Held.{Held, knows, history, made_since, durable}
use Rattle.store_seat.specs.Made.{Made}
use Rattle.locked_log.specs.Made.{IsMade}

-- The row is these records, one by one, up to a cell that refused its record.
pub record IsWritten (row : List (Option Record)) (records : List Record) (is_refused : Bool) : Type 0 where
  pub count : ℕ
  pub within : count ≤ length records
  pub whole : is_refused ≡ false → count ≡ length records
  pub is : IsRowOf row (take count records)

-- Row, book and total are each tied to the master alone, to its durable count and to the records that were made since
-- the store was.
pub record IsState (h : Held) (made : Made) : Type 0 where
  -- the history is legal, the log is covered, and the picture is sound
  pub valid : IsValid h.world.knows h.world.fleet
  -- the configuration, the opening and the least heads are those that the store was made with
  pub master : IsMade made h.world
  -- the first cell is for the first record since the store was made
  pub start : h.start ≤ length (history h)
  pub written : IsWritten h.row (made_since h) h.is_refused
  -- each seat has an account
  pub accounts : length h.book ≡ made.seats
  -- the first number of each account is at most the durable count
  pub firsts : (k : ℕ) (a : Account) → slice_get h.book k ≡ Some a → a.first ≤ durable h
  -- the second number of each account is the count of the seat's records
  pub counts : (k : ℕ) (a : Account) → slice_get h.book k ≡ Some a → a.count ≡ count_of k (made_since h)
  -- no record is of a seat that the store doesn't have
  pub no_others : AreOfSeats made.seats (made_since h)
  -- there are as many records as the ledger's total says
  pub total : h.total ≡ length (made_since h)
  -- no record is forgotten that a seat can still settle
  pub settled : IsSettled h.start h.book (history h) (knows h).forgotten

-- no account's first number is lower than before
abbrev pub RaisesFirsts : List Account → List Account → Type 0
RaisesFirsts old new = (k : ℕ) (a b : Account) → slice_get old k ≡ Some a → slice_get new k ≡ Some b → a.first ≤ b.first

-- What each call under the lock keeps: no first number and no durable count falls, no record changes, and no cell comes
-- or goes.
pub record Lasts (most : ℕ) (s t : Held) : Type 0 where
  pub keeps : Keeps most s.world t.world
  pub accounts : length t.book ≡ length s.book
  pub firsts : RaisesFirsts s.book t.book
  pub start : t.start ≡ s.start
  pub cells : length t.row ≡ length s.row
  pub refused : s.is_refused ≡ true → t.is_refused ≡ true
