-- How many records a master keeps.
use Rattle.std.specs.Prelude.{◌+◌, ◌<◌, ◌≤◌, ◌^◌, ℕ}

-- of so many records the first `forgotten` are gone, and no more than the limit are kept
pub record AreFewKept (records forgotten limit : ℕ) : Type 0 where
  pub within : forgotten ≤ records
  pub few : records ≤ forgotten + limit
  pub places : forgotten < 2 ^ 62 + 1024
