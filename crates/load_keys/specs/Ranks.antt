-- Ranks by running sums of their weights.
use Rattle.std.specs.Prelude.{◌≡◌, ◌≤◌, ◌<◌, ◌+◌, ◌⊎◌, ℕ, List, length, get_or}

-- Where a number stands among running sums: the sum before the rank isn't above it, and the rank's own sum is, unless
-- it is the last one. So a number that is drawn below the last sum finds each rank by just its weight.
pub record IsRankOf (sums : List ℕ) (number rank : ℕ) : Type 0 where
  pub there : rank < length sums
  pub above : (rank ≡ 0) ⊎ ((before : ℕ) × (rank ≡ before + 1) × (get_or sums before 0 ≤ number))
  pub below : (rank + 1 ≡ length sums) ⊎ (number < get_or sums rank 0)
