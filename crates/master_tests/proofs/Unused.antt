-- A master of whom no replica is shown has none.
use Rattle.std.proofs.Common.{◌≡◌, ℕ, Bool, true, false, List, [], ◌∷◌, inl, inr, refl, ap, ◌∙◌}
use Rattle.std.specs.Prelude.{◌==◌, Option, Some, None}
use Rattle.std.specs.List.{list_any}
use Rattle.std.proofs.lemmas.Bool.{or_parts}
use Rattle.std.proofs.lemmas.Bool.Decides.{Decides-eqb}
use Rattle.entry.specs.Bag.{IsAmong}
use Rattle.replica.specs.declared.holding.Holding.{Holding}
use Rattle.replica.specs.Picture.{Replica, Picture, AreHeld}

none_among : (hs : List Holding) (h : Holding) (m : ℕ) → list_any (λ (x : Holding). x.master == m) hs ≡ false
    → h.master ≡ m → IsAmong h hs → ⊥
none_among [] h m free is among = among
none_among (x ∷ xs) h m free is (inl same) =
    let others : Bool = list_any (λ (y : Holding). y.master == m) xs in
    let equal : (x.master == m) ≡ true = (Decides-eqb x.master m).1 (ap (λ (y : Holding). y.master) same ∙ is) in
    let unequal : (x.master == m) ≡ false = (or_parts (x.master == m) others free).0 in
    absurd (cc)
none_among (x ∷ xs) h m free is (inr among) =
    let others : Bool = list_any (λ (y : Holding). y.master == m) xs in
    none_among xs h m (or_parts (x.master == m) others free).1 is among

pub none_held : (hs : List Holding) (p : Picture) (m : ℕ) → AreHeld hs p
    → list_any (λ (h : Holding). h.master == m) hs ≡ false → (b s : ℕ) → p b m s ≡ None
none_held hs p m held free b s = go (p b m s) refl
  where
    go : (o : Option Replica) → p b m s ≡ o → p b m s ≡ None
    go None none = none
    go (Some r) there =
        let h : Holding = record { backup = b; master = m; segment = s; bytes = r.bytes; is_open = r.is_open } in
        absurd (none_among hs h m free refl ((held h).1 there))
