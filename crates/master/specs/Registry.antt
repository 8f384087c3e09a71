-- What masters need of the registry.
use Rattle.std.specs.Prelude.{◌≡◌, ◌<◌, ℕ}
use Rattle.replica.specs.Picture.{FleetState}

-- any head of the master may be used
abbrev pub IsUnraised : ℕ → FleetState → Type 0
IsUnraised master f = f.least master ≡ 0

-- any head may be used of each master with a greater number
abbrev pub AreUnraisedAbove : ℕ → FleetState → Type 0
AreUnraisedAbove number f = (m : ℕ) → number < m → f.least m ≡ 0
