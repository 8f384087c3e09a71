-- A walk over pairs of neighbours tells whether sizes are sorted.
use Rattle.std.proofs.Common.{◌≡◌, ◌-◌, ◌<◌, ◌≤◌, ℕ, zero, suc, true, List, [], ◌∷◌, length, drop, get_or, refl, arith}
use Rattle.std.proofs.Math.Seq.{drop-cons}
use Rattle.entry.specs.declared.tablet.Size.{Size}
use Rattle.tablet_will.specs.Order.{is_up_to}
use Rattle.tablet_will.specs.Sizes.{are_in_order}

-- a size that isn't after the next: those from it on are in order if those behind it are
pub order_step : (ss : List Size) (i j : ℕ) (d : Size) → suc i ≡ j → j < length ss
    → is_up_to (get_or ss i d).table (get_or ss i d).place (get_or ss j d).table (get_or ss j d).place ≡ true
    → are_in_order (drop i ss) ≡ are_in_order (drop j ss)
order_step ss i j d next lt up =
    let here : drop i ss ≡ get_or ss i d ∷ drop (suc i) ss = drop-cons ss i d (omega arith) in
    let there : drop j ss ≡ get_or ss j d ∷ drop (suc j) ss = drop-cons ss j d lt in
    let both : drop i ss ≡ get_or ss i d ∷ get_or ss j d ∷ drop (suc j) ss = rw (here, next, there) refl in
    rw (both, there, up) refl

-- one size, or none, is in order
pub order_end : (ss : List Size) (i : ℕ) → length ss ≤ i → are_in_order (drop (i - 1) ss) ≡ true
order_end ss zero le = none ss le
  where
    none : (xs : List Size) → length xs ≤ 0 → are_in_order (drop (0 - 1) xs) ≡ true
    none [] le = refl
    none (x ∷ xs) le = absurd (omega (arith, le))
order_end ss (suc i) le = let same : suc i - 1 ≡ i = omega arith in rw same (go ss i le)
  where
    go : (xs : List Size) (k : ℕ) → length xs ≤ suc k → are_in_order (drop k xs) ≡ true
    go [] zero le = refl
    go [] (suc k) le = refl
    go (x ∷ []) zero le = refl
    go (x ∷ y ∷ ys) zero le = absurd (omega (arith, le))
    go (x ∷ xs) (suc k) le = go xs k (omega (arith, le))
