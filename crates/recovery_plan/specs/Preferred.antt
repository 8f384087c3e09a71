-- Which replica of a segment is taken.
use Rattle.std.specs.Prelude.{◌≡◌, ◌==◌, ◌&&◌, ◌||◌, List, ◌∷◌, ◌++◌, length, Bool, true}
use Rattle.std.specs.Prelude.{false, Option, Some, None, nat_lt, if◌then◌else◌}
use Rattle.entry.specs.Bag.{IsAmong}
use Rattle.replica.specs.declared.holding.Holding.{Holding}

-- the first replica is longer, or as long and on a lower backup
abbrev pub is_longer : Holding → Holding → Bool
is_longer a b =
    nat_lt (length b.bytes) (length a.bytes) || ((length a.bytes == length b.bytes) && nat_lt a.backup b.backup)

-- a closed replica is preferred to an open one, of two closed ones that on the lower backup, of two open ones the
-- longer
abbrev pub is_preferred : Holding → Holding → Bool
is_preferred a b = if a.is_open then (b.is_open && is_longer a b) else (b.is_open || nat_lt a.backup b.backup)

-- Of the candidates in a list this one is preferred, and it is the first of those that tie with it.
pub record IsPreferred (IsCandidate : Holding → Type 0) (hs : List Holding) (h : Holding) : Type 0 where
  pub before : List Holding
  pub after : List Holding
  pub place : hs ≡ before ++ h ∷ after
  pub candidate : IsCandidate h
  pub earlier : (g : Holding) → IsAmong g before → IsCandidate g → is_preferred h g ≡ true
  pub later : (g : Holding) → IsAmong g after → IsCandidate g → is_preferred g h ≡ false

-- the preferred candidate; None if the list has none
abbrev pub IsBest : (Holding → Type 0) → List Holding → Option Holding → Type 0
IsBest IsCandidate hs None = (h : Holding) → IsAmong h hs → IsCandidate h → ⊥
IsBest IsCandidate hs (Some h) = IsPreferred IsCandidate hs h

-- the later replica if it is preferred to the best one before it, and else that one
abbrev pub better : Option Holding → Holding → Holding
better None later = later
better (Some best) later = if is_preferred later best then later else best
