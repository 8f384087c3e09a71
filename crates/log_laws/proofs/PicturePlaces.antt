-- Places of a picture.
use Rattle.std.proofs.Common.{◌≡◌, ℕ, ◌⊎◌, true, false, arith}
use Rattle.std.proofs.lemmas.Bool.Decides.{nat_tests}
use Rattle.replica.specs.Picture.{is_same_place}

-- two places are equal or they differ
pub place_tells : (b m s c n t : ℕ)
    → ((is_same_place b m s c n t ≡ true) × (b ≡ c) × (m ≡ n) × (s ≡ t))
    ⊎ ((is_same_place b m s c n t ≡ false) × ((b ≡ c) × (m ≡ n) × (s ≡ t) → ⊥))
place_tells b m s c n t = grind (arith, nat_tests)
