-- The order of claims is total, and what it says of neighbours.
use Rattle.std.proofs.Common.{◌≡◌, ℕ, suc, ◌+◌, ◌*◌, ◌<◌, ◌≤◌, Bool, true, false, cond, List}
use Rattle.std.proofs.Common.{[], ◌∷◌, get_or, map, refl, ap, subst, ◌∙◌, inl, inr, arith}
use Rattle.std.specs.Cmp.{IsTotalOrder, bool_cmp_total}
use Rattle.std.specs.Cmp.Lexicographic.{slice_cmp}
use Rattle.std.specs.List.Sorted.{IsSortedBy}
use Rattle.std.specs.Ordering.{nat_cmp, bool_cmp, ordering_then, ordering_reverse, is_gt, is_lt, MatchOrdering}
use Rattle.std.specs.declared.cmp.Ordering.{Ordering}
use Rattle.std.specs.declared.cmp.Ordering.TheVariants.{Less, Equal, Greater}
use Rattle.std.proofs.lemmas.Cmp.{nat_cmp_total, nat_list_cmp_total, on_total, then_total, upto, ranked}
use Rattle.entry.specs.Bag.{IsAmong}
use Rattle.entry.specs.Order.{key_cmp, key_cmp_total}
use Rattle.claims.specs.Claims.{Claimed, claim_cmp, rank}
use Rattle.entry.proofs.KeyOrder.{key_cmp_same}

claim_cmp-total : IsTotalOrder claim_cmp
claim_cmp-total =
    then_total (on_total (λ (c : Claimed). c.key) key_cmp_total)
    (then_total (on_total (λ (c : Claimed). c.version) nat_cmp_total)
    (then_total (on_total (λ (c : Claimed). c.dead) bool_cmp_total)
    (on_total (λ (c : Claimed). c.value) nat_list_cmp_total)))

-- the one comes before the other, or the two are the same
abbrev pub Precedes : Claimed → Claimed → Type 0
Precedes c d = is_gt (claim_cmp c d) ≡ false

then-up : (o r : Ordering) → is_gt (ordering_then o r) ≡ false → is_gt o ≡ false
then-up Less r h = refl
then-up Equal r h = refl
then-up Greater r h = h

then-on : (o r : Ordering) → o ≡ Equal → is_gt (ordering_then o r) ≡ false → is_gt r ≡ false
then-on Less r e h = absurd (cc)
then-on Equal r e h = h
then-on Greater r e h = absurd (cc)

pub keys-up : (c d : Claimed) → Precedes c d → is_gt (key_cmp c.key d.key) ≡ false
keys-up c d h = then-up (key_cmp c.key d.key) _ h

ranks : (v w : ℕ) (a b : Bool) (o t : Ordering) → MatchOrdering o (v < w) (v ≡ w) (w < v) →
    is_gt (ordering_then o (ordering_then (bool_cmp a b) t)) ≡ false →
    cond a (2 * v + 1) (2 * v) ≤ cond b (2 * w + 1) (2 * w)
ranks v w false false Less t at h = omega arith
ranks v w false true Less t at h = omega arith
ranks v w true false Less t at h = omega arith
ranks v w true true Less t at h = omega arith
ranks v w false false Equal t at h = omega arith
ranks v w false true Equal t at h = omega arith
ranks v w true false Equal t at h = absurd (cc)
ranks v w true true Equal t at h = omega arith
ranks v w a b Greater t at h = absurd (cc)

-- of one key the later ranks no lower
pub ranks-up : (c d : Claimed) → Precedes c d → c.key ≡ d.key → rank c ≤ rank d
ranks-up c d h same =
    let rest = then-on (key_cmp c.key d.key) _ (key_cmp_same c.key d.key same) h in
    ranks c.version d.version c.dead d.dead (nat_cmp c.version d.version) (slice_cmp nat_cmp c.value d.value)
    (ranked c.version d.version (nat_cmp c.version d.version) refl) rest

-- each precedes all that follow it
abbrev pub Rises : List Claimed → Type 0
Rises [] = Unit {0}
Rises (c ∷ cs) = ((d : Claimed) → IsAmong d cs → Precedes c d) × Rises cs

-- the one's claim comes before the other's
abbrev pub before_by : {X : Type 0} → (X → Claimed) → X → X → Bool
before_by view x y = is_lt (claim_cmp (view x) (view y))

module _ {X : Type 0} (view : X → Claimed) where
  abbrev lt : X → X → Bool
  lt = before_by view

  sorted-tail : (x : X) (xs : List X) → IsSortedBy lt (x ∷ xs) → IsSortedBy lt xs
  sorted-tail x xs h k d low more =
      let here : lt (get_or (x ∷ xs) (k + 1 + 1) d) (get_or (x ∷ xs) (k + 1) d) ≡ false =
      h (k + 1) d (omega arith) (omega arith) in
      let one : k + 1 ≡ suc k = omega arith in
      let two : k + 1 + 1 ≡ suc (k + 1) = omega arith in
      subst (λ j. lt (get_or (x ∷ xs) j d) (get_or xs k d) ≡ false) two
      (subst (λ i. lt (get_or (x ∷ xs) (k + 1 + 1) d) (get_or (x ∷ xs) i d) ≡ false) one here)

  precedes-from : (c d : Claimed) (o : Ordering) → claim_cmp c d ≡ o → is_lt (claim_cmp d c) ≡ false → is_gt o ≡ false
  precedes-from c d Less e h = refl
  precedes-from c d Equal e h = refl
  precedes-from c d Greater e h =
      let less : claim_cmp d c ≡ Less = claim_cmp-total.antisymm d c ∙ ap ordering_reverse e in
      let yes : is_lt (claim_cmp d c) ≡ true = ap is_lt less in absurd (cc)

  -- what a sort ensures
  pub Rises-from_sorted : (xs : List X) → IsSortedBy lt xs → Rises (map view xs)
  Rises-from_sorted [] h = tt
  Rises-from_sorted (x ∷ []) h = (λ d m. absurd m, tt)
  Rises-from_sorted (x ∷ y ∷ xs) h =
      let next = Rises-from_sorted (y ∷ xs) (sorted-tail x (y ∷ xs) h) in
      let first : Precedes (view x) (view y) =
      precedes-from (view x) (view y) _ refl (h 0 x (omega arith) (omega arith)) in (
        λ d m. elim m as (λ _. Precedes (view x) d) [
          | inl e ↦ subst (λ f. Precedes (view x) f) e first
          | inr later ↦ upto claim_cmp-total (view x) (view y) d first (next.0 d later)
        ],
        next,
      )
