-- Orders that are gone through from front to back.
use Rattle.std.proofs.Common.{◌≡◌, ℕ, ◌*◌, ◌/◌, ◌%◌, ◌<◌, ◌≤◌, List, length, ap, subst, ◌∙◌, arith}
use Rattle.std.specs.Prelude.{slice_index}
use Rattle.std.proofs.lemmas.List.{get_or_default}
use Rattle.std.proofs.lemmas.Nat.{div-add-mod'}
use Rattle.std.proofs.Math.Nat.{mul-div_cancel, mul-mod_left}
use Rattle.entry.specs.Bag.{IsAmong}
use Rattle.entry.proofs.BagLemmas.{among_at, among_place}

-- what holds of the number at each place holds of each number
pub each_among : (P : ℕ → Type 0) (order : List ℕ) (k : ℕ) → length order ≤ k
    → ((i : ℕ) → i < k → P (slice_index order i)) → (n : ℕ) → IsAmong n order → P n
each_among P order k end h n m =
    let at = among_place n order m in
    let low = at.1 in
    subst P (get_or_default order at.0 0 n at.1 ∙ at.2) (h at.0 (omega (arith, low, end)))

-- the number at a place is among them
pub here_among : (order : List ℕ) (k : ℕ) → k < length order → IsAmong (slice_index order k) order
here_among order k lt = among_at order k (slice_index order k) lt (get_or_default order k 0 (slice_index order k) lt)

-- ---- the first group of a segment

pub is_first : (n at p : ℕ) → n / p ≡ at → n % p ≡ 0 → n ≡ at * p
is_first n at p row rest =
    let whole = div-add-mod' n p in
    let same : n / p * p ≡ at * p = ap (λ m. m * p) row in omega (arith, whole, same, rest)

pub first_row : (n at p : ℕ) → 0 < p → n ≡ at * p → n / p ≡ at
first_row n at p some is = ap (λ m. m / p) is ∙ mul-div_cancel at some

pub first_rest : (n at p : ℕ) → n ≡ at * p → n % p ≡ 0
first_rest n at p is = ap (λ m. m % p) is ∙ mul-mod_left at p
