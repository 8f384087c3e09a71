-- The seats of the records of a history.
use Rattle.std.specs.Prelude.{◌≡◌, ◌≤◌, ◌<◌, ◌==◌, ◌+◌, ◌*◌, ℕ, List, All, count_by}
use Rattle.versioned_map.specs.declared.command.Record.{Record}

-- how many of the records are of this seat
abbrev pub count_of : ℕ → List Record → ℕ
count_of seat records = count_by (λ (r : Record). r.seat == seat) records

-- each record is of a seat whose number is below this
abbrev pub AreOfSeats : ℕ → List Record → Type 0
AreOfSeats seats records = All (λ (r : Record). r.seat < seats) records

-- Each of these clients, whose seats are numbered from 1, made twice the rounds as records. No other seat made one.
pub record AreAccepted (clients rounds : ℕ) (old new : List Record) : Type 0 where
  pub own : count_of 0 new ≡ count_of 0 old
  pub each : (k : ℕ) → 1 ≤ k → k ≤ clients → count_of k new ≡ count_of k old + 2 * rounds
  pub idle : (k : ℕ) → clients < k → count_of k new ≡ count_of k old
