-- The ids of survivors, which follow one another.
use Rattle.std.proofs.Common.{◌≡◌, ℕ, zero, suc, ◌+◌, ◌-◌, ◌<◌, ◌≤◌, ◌⊎◌, inl, inr, Bool, true, false, ◌||◌, ◌==◌, List}
use Rattle.std.proofs.Common.{[], ◌∷◌, ◌++◌, refl, sym, ap, subst, ◌∙◌, arith}
use Rattle.std.specs.Prelude.{nat_lt}
use Rattle.std.specs.List.{AllByRecursion, range_with_len}
use Rattle.std.proofs.lemmas.Bool.{eq-eqb, ne_eqb, lt-ltb, le-ltb, ltb-true, ltb-false, or_left}
use Rattle.entry.specs.Bag.{IsAmong}
use Rattle.entry.proofs.ListLemmas.{all_among}
use Rattle.compactor.specs.Kept.{has_id}

-- ---- among them

pub among_ids : (first count s : ℕ) → IsAmong s (range_with_len first count) → (first ≤ s) × (s < first + count)
among_ids first zero s m = absurd m
among_ids first (suc count) s (inl same) = (omega (arith, same), omega (arith, same))
among_ids first (suc count) s (inr m) =
    let later = among_ids (first + 1) count s m in
    let le = later.0 in let lt = later.1 in
    (omega (arith, le), omega (arith, lt))

pub id_among : (first count i : ℕ) → i < count → IsAmong (first + i) (range_with_len first count)
id_among first zero i lt = absurd (omega arith)
id_among first (suc count) zero lt = inl (omega arith)
id_among first (suc count) (suc i) lt =
    let same : first + 1 + i ≡ first + suc i = omega arith in
    inr (subst (λ (s : ℕ). IsAmong s (range_with_len (first + 1) count)) same
    (id_among (first + 1) count i (omega arith)))

pub ids_among : (first count s : ℕ) → first ≤ s → s < first + count → IsAmong s (range_with_len first count)
ids_among first count s le lt =
    let same : first + (s - first) ≡ s = omega (arith, le) in
    subst (λ (x : ℕ). IsAmong x (range_with_len first count)) same
    (id_among first count (s - first) (omega (arith, le, lt)))

-- what holds of each holds of the one at a place
pub all_ids : (P : ℕ → Type 0) (first count i : ℕ) → AllByRecursion P (range_with_len first count) → i < count
    → P (first + i)
all_ids P first count i all lt = all_among P (range_with_len first count) (first + i) all (id_among first count i lt)

-- ---- by a test

or_false : (a b : Bool) → a ≡ false → (a || b) ≡ b
or_false a b is = ap (λ (x : Bool). x || b) is

pub has_below : (first count id : ℕ) → id < first → has_id (range_with_len first count) id ≡ false
has_below first zero id lt = refl
has_below first (suc count) id lt =
    or_false (first == id) (has_id (range_with_len (first + 1) count) id)
    (ne_eqb first id (λ same. omega (arith, lt, same)))
    ∙ has_below (first + 1) count id (omega (arith, lt))

pub has_ids : (first count id : ℕ) → first ≤ id → has_id (range_with_len first count) id ≡ nat_lt (id - first) count
has_ids first zero id le = sym (le-ltb (id - first) 0 (omega arith))
has_ids first (suc count) id le =
    go (λ lt. has_ids (first + 1) count id (omega (arith, lt))) (one_or_more first id le) where
      one_or_more : (a b : ℕ) → a ≤ b → (a ≡ b) ⊎ (a < b)
      one_or_more zero zero le = inl refl
      one_or_more zero (suc b) le = inr (omega arith)
      one_or_more (suc a) zero le = absurd (omega arith)
      one_or_more (suc a) (suc b) le =
          elim (one_or_more a b (omega arith)) [ inl same ↦ inl (ap suc same) | inr lt ↦ inr (omega arith) ]

      shifted : (a b c : ℕ) → a < b → nat_lt (b - (a + 1)) c ≡ nat_lt (b - a) (suc c)
      shifted a b c lt = by_test (nat_lt (b - (a + 1)) c) refl where
        by_test : (t : Bool) → nat_lt (b - (a + 1)) c ≡ t → t ≡ nat_lt (b - a) (suc c)
        by_test true is =
            let less = ltb-true (b - (a + 1)) c is in sym (lt-ltb (b - a) (suc c) (omega (arith, lt, less)))
        by_test false is =
            let less = ltb-false (b - (a + 1)) c is in sym (le-ltb (b - a) (suc c) (omega (arith, lt, less)))

      go : (first < id → has_id (range_with_len (first + 1) count) id ≡ nat_lt (id - (first + 1)) count)
          → (first ≡ id) ⊎ (first < id)
          → has_id (range_with_len first (suc count)) id ≡ nat_lt (id - first) (suc count)
      go later (inl same) =
          or_left (first == id) (has_id (range_with_len (first + 1) count) id) (eq-eqb first id same)
          ∙ sym (lt-ltb (id - first) (suc count) (omega (arith, same)))
      go later (inr lt) =
          or_false (first == id) (has_id (range_with_len (first + 1) count) id)
          (ne_eqb first id (λ same. omega (arith, lt, same)))
          ∙ later lt
          ∙ shifted first id count lt

-- ---- in order

-- one more, behind them
pub ids_more : (first count : ℕ) → range_with_len first (suc count) ≡ range_with_len first count ++ (first + count) ∷ []
ids_more first zero = ap (λ (s : ℕ). s ∷ []) (omega arith)
ids_more first (suc count) =
    ap (λ (ids : List ℕ). first ∷ ids) (ids_more (first + 1) count)
    ∙ ap (λ (s : ℕ). first ∷ (range_with_len (first + 1) count ++ s ∷ [])) (omega arith)
