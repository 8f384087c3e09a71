-- Sizes that were sorted by table and place are in order.
use Rattle.std.proofs.Common.{◌≡◌, ℕ, suc, ◌+◌, ◌≤◌, Bool, true, false, ◌||◌, ◌&&◌, List, [], ◌∷◌, get_or, refl, ap}
use Rattle.std.proofs.Common.{subst, ◌∙◌, arith}
use Rattle.std.specs.Prelude.{◌==◌, nat_lt, nat_le}
use Rattle.std.specs.List.Sorted.{IsSortedBy}
use Rattle.std.specs.Ordering.{nat_cmp, ordering_then, is_lt}
use Rattle.std.proofs.lemmas.Bool.{and_from}
use Rattle.std.proofs.lemmas.Bool.Decides.{nat_tests}
use Rattle.std.proofs.lemmas.Map.Keys.{ge_from_not_lt}
use Rattle.std.proofs.Math.Bool.{or-true}
use Rattle.entry.specs.declared.tablet.Size.{Size}
use Rattle.tablet_will.specs.Order.{is_up_to}
use Rattle.tablet_will.specs.Sizes.{are_in_order}

-- a size comes before another
abbrev pub is_less : Size → Size → Bool
is_less s r = is_lt (ordering_then (nat_cmp s.table r.table) (nat_cmp s.place r.place))

up_to : (s r : Size) → is_less r s ≡ false → is_up_to s.table s.place r.table r.place ≡ true
up_to s r not_less = go (nat_lt r.table s.table) refl
  where
    tie : (b : Bool) → nat_lt r.table s.table ≡ false → (r.table == s.table) ≡ b
        → is_up_to s.table s.place r.table r.place ≡ true
    tie true less same =
        let places : is_lt (nat_cmp r.place s.place) ≡ false = rw (less, same) at not_less in
        let le : s.place ≤ r.place = ge_from_not_lt r.place s.place places in
        let one : (s.table == r.table) ≡ true = grind (arith, nat_tests) in
        let below : nat_le s.place r.place ≡ true = grind (arith, nat_tests) in
        ap (λ (b : Bool). nat_lt s.table r.table || b) (and_from (s.table == r.table)
        (nat_le s.place r.place) one below)
        ∙ or-true (nat_lt s.table r.table)
    tie false less same =
        let lt : nat_lt s.table r.table ≡ true = grind (arith, nat_tests) in
        ap (λ (b : Bool). b || ((s.table == r.table) && nat_le s.place r.place)) lt

    go : (b : Bool) → nat_lt r.table s.table ≡ b → is_up_to s.table s.place r.table r.place ≡ true
    go true less = (let never : true ≡ false = rw less at not_less in absurd (cc))
    go false less = tie (r.table == s.table) less refl

pub sorted_order : (ss : List Size) → IsSortedBy is_less ss → are_in_order ss ≡ true
sorted_order [] up = refl
sorted_order (s ∷ []) up = refl
sorted_order (s ∷ r ∷ ss) up =
    and_from (is_up_to s.table s.place r.table r.place) (are_in_order (r ∷ ss))
    (up_to s r (up 0 s (omega arith) (omega arith)))
    (sorted_order (r ∷ ss) (λ k d low within. let e : suc k + 1 ≡ suc (k + 1) = omega arith in
    subst (λ (n : ℕ). is_less (get_or (s ∷ r ∷ ss) n d) (get_or (r ∷ ss) k d) ≡ false) e
    (up (suc k) d (omega arith) (omega arith))))
