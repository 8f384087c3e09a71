-- The number of the next master.
use Rattle.std.proofs.Common.{[], ◌≡◌, ◌≤◌, ◌∷◌, ℕ, suc, max, List, refl, ap, inl, inr, arith}
use Rattle.std.specs.Prelude.{Option, Some, None}
use Rattle.entry.specs.Bag.{IsAmong}
use Rattle.replica.specs.declared.holding.Holding.{Holding}
use Rattle.replica.specs.Picture.{AreHeld, Picture, Replica}
use Rattle.embedded.specs.Next.{greatest_of}

pub among_greatest : (hs : List Holding) (h : Holding) → IsAmong h hs → h.master ≤ greatest_of hs
among_greatest [] h among = absurd among
among_greatest (x ∷ xs) h (inl is) = let same = ap (λ (y : Holding). y.master) is in omega arith
among_greatest (x ∷ xs) h (inr among) = let rest = among_greatest xs h among in omega arith

-- the fleet holds no replica of a master with the next number
pub next_unused : (hs : List Holding) (p : Picture) (used number : ℕ) → AreHeld hs p
    → number ≡ suc (max used (greatest_of hs)) → (b s : ℕ) → p b number s ≡ None
next_unused hs p used number held is b s = go (p b number s) refl
  where
    go : (o : Option Replica) → p b number s ≡ o → p b number s ≡ None
    go None none = none
    go (Some r) there =
        let h : Holding = record { backup = b; master = number; segment = s; bytes = r.bytes; is_open = r.is_open } in
        let below = among_greatest hs h ((held h).1 there) in
        absurd (omega arith)
