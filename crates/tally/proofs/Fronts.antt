-- The first so many tallies of a list, staled.
use Rattle.std.proofs.Common.{◌≡◌, ℕ, zero, suc, ◌<◌, ◌≤◌, List, [], ◌∷◌, length, get_or, set, map, refl, ap, arith}
use Rattle.tally.specs.declared.tallies.Tally.{Tally}
use Rattle.tally.specs.Rows.{staled}

abbrev pub staled_front : List Tally → ℕ → List Tally
staled_front [] count = []
staled_front (row ∷ rows) zero = row ∷ rows
staled_front (row ∷ rows) (suc count) = staled row ∷ staled_front rows count

pub front_none : (rows : List Tally) → staled_front rows 0 ≡ rows
front_none [] = refl
front_none (x ∷ xs) = refl

pub front_all : (rows : List Tally) (at : ℕ) → length rows ≤ at → staled_front rows at ≡ map staled rows
front_all [] at le = refl
front_all (x ∷ xs) zero le = absurd (omega arith)
front_all (x ∷ xs) (suc at) le = ap (λ (ys : List Tally). staled x ∷ ys) (front_all xs at (omega arith))

pub front_length : (rows : List Tally) (at : ℕ) → length (staled_front rows at) ≡ length rows
front_length [] at = refl
front_length (x ∷ xs) zero = refl
front_length (x ∷ xs) (suc at) = let rest = front_length xs at in omega (arith, rest)

pub front_at : (rows : List Tally) (at : ℕ) (d : Tally) → get_or (staled_front rows at) at d ≡ get_or rows at d
front_at [] at d = refl
front_at (x ∷ xs) zero d = refl
front_at (x ∷ xs) (suc at) d = front_at xs at d

pub front_next : (rows : List Tally) (at : ℕ) (d y : Tally) → at < length rows → y ≡ staled (get_or rows at d)
    → set (staled_front rows at) at y ≡ staled_front rows (suc at)
front_next [] at d y lt is = absurd (omega arith)
front_next (x ∷ []) zero d y lt is = ap (λ (z : Tally). z ∷ []) is
front_next (x ∷ z ∷ zs) zero d y lt is = ap (λ (v : Tally). v ∷ z ∷ zs) is
front_next (x ∷ xs) (suc at) d y lt is = ap (λ (ys : List Tally). staled x ∷ ys) (front_next xs at d y (omega arith) is)
