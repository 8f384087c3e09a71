-- The order of places, by master and then by segment.
use Rattle.std.proofs.Common.{◌≡◌, ℕ, ◌==◌, ◌&&◌, refl, sym, ◌∙◌}
use Rattle.std.specs.Ordering.{is_eq, nat_cmp, ordering_then}
use Rattle.std.specs.Cmp.{IsTotalOrder, unsigned_tied, tied_then, nat_cmp_total, then_total, on_total}
use Rattle.std.proofs.lemmas.Map.Lookups.{CmpEqualImpliesEq, exact_pairs, exact_unsigned}
use Rattle.backup.specs.Slots.{place_cmp}

-- two places tie if both numbers are the same
pub is_eq-place_cmp : (a b m s : ℕ) → is_eq (ordering_then (nat_cmp a m) (nat_cmp b s)) ≡ ((a == m) && (b == s))
is_eq-place_cmp a b m s =
    let e : is_eq (nat_cmp a m) ≡ (a == m) = unsigned_tied a m in
    let d : is_eq (nat_cmp b s) ≡ (b == s) = unsigned_tied b s in
    sym (tied_then (nat_cmp a m) (nat_cmp b s)) ∙ rw (e, d) refl

pub place_total : IsTotalOrder place_cmp
place_total = then_total (on_total (λ p. p.0) nat_cmp_total) (on_total (λ p. p.1) nat_cmp_total)

pub place_exact : CmpEqualImpliesEq place_cmp
place_exact = exact_pairs nat_cmp nat_cmp exact_unsigned exact_unsigned
