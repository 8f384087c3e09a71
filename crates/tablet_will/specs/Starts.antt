-- When the starts of partitions are in order.
use Rattle.std.specs.Prelude.{◌≡◌, ℕ, true, List, [], ◌∷◌}
use Rattle.tablet_will.specs.declared.group.Start.{Start}
use Rattle.tablet_will.specs.Order.{is_below}

-- the first start comes after this place, and each later start comes after the one before it
abbrev pub AreAbove : ℕ → ℕ → List Start → Type 0
AreAbove table place [] = Unit {0}
AreAbove table place (s ∷ ss) = (is_below table place s.table s.place ≡ true) × AreAbove s.table s.place ss

-- each start comes after the one before it
abbrev pub AreRising : List Start → Type 0
AreRising [] = Unit {0}
AreRising (s ∷ ss) = AreAbove s.table s.place ss
