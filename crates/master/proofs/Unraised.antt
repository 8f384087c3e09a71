-- No step raises the least head of another master.
use Rattle.std.proofs.Common.{◌≡◌, ℕ, ◌∙◌, arith}
use Rattle.replica.specs.Picture.{FleetState}
use Rattle.master.specs.Registry.{AreUnraisedAbove}

-- another fleet with the same least heads of all masters but this one
pub above_on : (number : ℕ) (f g : FleetState) → ((m : ℕ) → (m ≡ number → ⊥) → g.least m ≡ f.least m)
    → AreUnraisedAbove number f
    → AreUnraisedAbove number g
above_on number f g same are m above = same m (λ is. omega (arith, is, above)) ∙ are m above
