-- The limit of live bytes that options ask for.
use Rattle.std.specs.Prelude.{◌≡◌, ◌⊎◌, ◌<◌, ℕ, true, false}
use Rattle.packing.specs.declared.sizes.Sizes.{Sizes}
use Rattle.packing.specs.Limits.{AreBounded, is_limit}
use Rattle.packing.specs.Packing.{AreSound}
use Rattle.command_line.specs.declared.settings.Options.{Options}

-- the sizes of a log of these options
abbrev pub option_sizes : Options → Sizes
option_sizes o = record { segment = o.segment; seglet = o.seglet; seglets = o.seglets; format = o.format }

-- The number is the greatest limit. If there is no limit, it is 0.
abbrev pub IsGreatest : Sizes → ℕ → ℕ → Type 0
IsGreatest s largest n = ((is_limit s largest n ≡ true) × ((m : ℕ) → n < m → is_limit s largest m ≡ false))
    ⊎ ((n ≡ 0) × ((m : ℕ) → is_limit s largest m ≡ false))

-- A limit of 0 asks for the greatest one. Any other limit stays, and so do all other options.
pub record SetsLimit (asked set : Options) : Type 0 where
  pub rest : set ≡ record asked { live = set.live }
  pub given : (asked.live ≡ 0 → ⊥) → set.live ≡ asked.live
  pub greatest : asked.live ≡ 0 → AreSound (option_sizes asked) → AreBounded (option_sizes asked)
      → IsGreatest (option_sizes asked) asked.largest set.live
