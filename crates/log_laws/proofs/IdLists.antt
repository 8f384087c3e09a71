-- Members of lists of ids and of entries, and options.
use Rattle.std.proofs.Common.{◌≡◌, ℕ, zero, suc, ◌<◌, inl, inr, Bool, true, false, cond, List, [], ◌∷◌, ◌++◌, length}
use Rattle.std.proofs.Common.{Some, refl, ap, arith}
use Rattle.std.specs.Prelude.{Option, None, IsSome, IsSomeAnd, filter}
use Rattle.std.specs.List.{AllByRecursion}
use Rattle.std.proofs.lemmas.List.{length-append}
use Rattle.entry.specs.declared.entry.Entry.{Entry}
use Rattle.entry.specs.Bag.{IsAmong}
use Rattle.entry.specs.Text.{is_data}
use Rattle.entry.specs.Meaning.{among}
use Rattle.log_laws.specs.HeadSteps.{no_units}

-- ---- ids

pub below_at : (n : ℕ) (ids : List ℕ) (s : ℕ) → AllByRecursion (λ (t : ℕ). t < n) ids → IsAmong s ids → s < n
below_at n [] s all m = absurd m
below_at n (t ∷ ids) s all (inl e) = let lt = all.0 in omega arith
below_at n (t ∷ ids) s all (inr m) = below_at n ids s all.1 m

pub all_below : (n : ℕ) (ids : List ℕ) → ((s : ℕ) → IsAmong s ids → s < n)
    → AllByRecursion (λ (s : ℕ). s < n) ids
all_below n [] each = tt
all_below n (s ∷ ids) each = (each s (inl refl), all_below n ids (λ z m. each z (inr m)))

-- two lists are one if they are with one more element each
pub same_front : (xs ys : List ℕ) (x y : ℕ) → xs ++ x ∷ [] ≡ ys ++ y ∷ [] → xs ≡ ys
same_front [] [] x y e = refl
same_front [] (z ∷ ys) x y e = let n = ap length e in let parts = length-append ys (y ∷ []) in absurd (omega arith)
same_front (w ∷ xs) [] x y e = let n = ap length e in let parts = length-append xs (x ∷ []) in absurd (omega arith)
same_front (w ∷ xs) (z ∷ ys) x y e =
    let first : w ≡ z = cc in
    let rest : xs ++ x ∷ [] ≡ ys ++ y ∷ [] = cc in
    let more = same_front xs ys x y rest in cc

-- ---- counts of none

pub no_units_length : (n : ℕ) → length (no_units n) ≡ n
no_units_length zero = refl
no_units_length (suc n) = let rest = no_units_length n in omega arith

-- ---- options

pub some_given : {A : Type 0} (o : Option A) (P : A → Type 0) → IsSomeAnd o P → (r : A) × (o ≡ Some r) × P r
some_given None P h = absurd h
some_given (Some r) P h = (r, refl, h)

pub some_is : {A : Type 0} (o : Option A) → IsSome o → (r : A) × (o ≡ Some r)
some_is None h = absurd (cc)
some_is (Some r) h = (r, refl)

pub is_none : {A : Type 0} (o : Option A) → ((r : A) → o ≡ Some r → ⊥) → o ≡ None
is_none None never = refl
is_none (Some r) never = absurd (never r refl)

-- ---- data

-- what is among the objects and tombstones of a list is among it
pub among_data : (e : Entry) (es : List Entry) → among (filter is_data es) e → among es e
among_data e [] m = absurd m
among_data e (x ∷ es) m = go (λ (n : among (filter is_data es) e). among_data e es n) (is_data x) m where
  go : (among (filter is_data es) e → among es e) → (b : Bool)
      → among (cond b (x ∷ filter is_data es) (filter is_data es)) e → among (x ∷ es) e
  go more true (inl p) = inl p
  go more true (inr n) = inr (more n)
  go more false n = inr (more n)
