-- Numbers of masters.
use Rattle.std.specs.Prelude.{◌≡◌, ◌⊎◌, ◌<◌, ◌≤◌, ◌-◌, ◌^◌, ℕ, suc, max, List, [], ◌∷◌}
use Rattle.replica.specs.declared.holding.Holding.{Holding}
use Rattle.replica.specs.Picture.{Picture, AreHeld}

-- the greatest number of a master in an inventory, or 0
abbrev pub greatest_of : List Holding → ℕ
greatest_of [] = 0
greatest_of (h ∷ hs) = max h.master (greatest_of hs)

-- the least number above the greatest that was used, and above the masters of all replicas that are held
abbrev pub IsNextNumber : ℕ → Picture → ℕ → Type 0
IsNextNumber used p n = (hs : List Holding) × AreHeld hs p × (n ≡ suc (max used (greatest_of hs)))

-- no number of 64 bits is above all of these
abbrev pub AreSpent : ℕ → Picture → Type 0
AreSpent used p = (hs : List Holding) × AreHeld hs p × (max used (greatest_of hs) ≡ 2 ^ 64 - 1)

-- What a recovery makes of the number of the master that the next recovery is for, and of the greatest number that was
-- used. A new master has a greater number than any before it, even if nothing is left of those.
pub record Renumbers (master used next_master next_used : ℕ) : Type 0 where
  pub rises : used ≤ next_used
  pub fresh : (next_master ≡ master) ⊎ ((used < next_master) × (next_master ≡ next_used))
