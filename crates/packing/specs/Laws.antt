-- The laws of a limit.
use Rattle.std.specs.Prelude.{◌≡◌, ℕ, ◌+◌, ◌*◌, ◌%◌, ◌≤◌, List, true, sum}
use Rattle.packing.specs.declared.sizes.Sizes.{Sizes}
use Rattle.packing.specs.Packing.{whole, seglets_needed, fits_digest, can_load, AreSound}
use Rattle.packing.specs.Limits.{AreLengths, IsLimit, longest, is_limit}

-- A new master can load objects of these lengths, and two whole segments stay free besides.
pub record LeavesTwo (s : Sizes) (lengths : List ℕ) : Type 0 where
  pub places : fits_digest s lengths ≡ true
  pub memory : seglets_needed s lengths + 2 * whole s ≤ s.seglets
  pub loads : can_load s lengths ≡ true

-- Objects within a limit can be loaded, whatever their order. A segment is of whole seglets.
abbrev pub WithinLimitLoads : Type 0
WithinLimitLoads = (s : Sizes) (most heads live : ℕ) (lengths : List ℕ) → AreSound s → s.segment % s.seglet ≡ 0
    → IsLimit s most heads live → AreLengths most lengths → sum lengths ≤ live → LeavesTwo s lengths

-- The test of a limit is right.
abbrev pub TestedLimitLoads : Type 0
TestedLimitLoads = (s : Sizes) (largest live : ℕ) (lengths : List ℕ) → AreSound s → s.segment % s.seglet ≡ 0
    → is_limit s largest live ≡ true → AreLengths (longest s largest) lengths → sum lengths ≤ live → LeavesTwo s lengths

-- each number below a limit is a limit
abbrev pub LessIsLimit : Type 0
LessIsLimit = (s : Sizes) (largest less live : ℕ) → AreSound s → less ≤ live → is_limit s largest live ≡ true
    → is_limit s largest less ≡ true
