-- What contracts see of latencies.
use Rattle.std.specs.Prelude.{ℕ}

-- how many calls were counted, and the longest time
pub record LatenciesValue : Type 0 where
  pub calls : ℕ
  pub greatest : ℕ
