-- Which of a backup's replicas are other masters'.
use Rattle.std.specs.Prelude.{ℕ, ◌==◌, List, map, filter, not}
use Rattle.replica.specs.declared.holding.Holding.{Holding}
use Rattle.replica.specs.declared.spot.Spot.{Spot}
use Rattle.replica.specs.Picture.{Picture}
use Rattle.replica.specs.Retire.{HoldsOther}

-- where a replica is
abbrev pub spot_of : Holding → Spot
spot_of h = record { backup = h.backup; master = h.master; segment = h.segment }

-- where those of other masters than this one are, in order
abbrev pub spots_of_others : ℕ → List Holding → List Spot
spots_of_others keep hs = map spot_of (filter (λ (h : Holding). not (h.master == keep)) hs)

-- a replica of another master than this one is there
abbrev pub HoldsOthers : Picture → ℕ → Type 0
HoldsOthers p keep = (spot : Spot) × HoldsOther p keep spot
