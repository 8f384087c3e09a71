-- Members of lists that are made of other lists.
use Rattle.std.proofs.Common.{◌≡◌, ◌≢◌, ℕ, zero, suc, ◌+◌, ◌<◌, Bool, true, false, cond, List, [], ◌∷◌, map, length}
use Rattle.std.proofs.Common.{replicate}
use Rattle.std.proofs.Common.{get_or, refl, sym, ap, subst, ◌∙◌, inl, inr, arith}
use Rattle.std.specs.Prelude.{filter, ◌==◌, ◌||◌}
use Rattle.std.specs.List.{flat_map, list_any, range_with_len}
use Rattle.std.proofs.lemmas.Bool.{or_parts}
use Rattle.std.proofs.lemmas.Bool.Decides.{Decides-eqb}
use Rattle.entry.specs.Bag.{IsAmong}
use Rattle.entry.proofs.BagLemmas.{among_left, among_right, among_either}

module _ {X Y : Type 0} (f : X → List Y) where
  pub flat_among : (xs : List X) (x : X) (y : Y) → IsAmong x xs → IsAmong y (f x) → IsAmong y (flat_map f xs)
  flat_among [] x y m n = absurd m
  flat_among (z ∷ xs) x y (inl e) n = among_left y (f z) (flat_map f xs) (subst (λ w. IsAmong y (f w)) (sym e) n)
  flat_among (z ∷ xs) x y (inr m) n = among_right y (f z) (flat_map f xs) (flat_among xs x y m n)

  pub among_flat : (xs : List X) (y : Y) → IsAmong y (flat_map f xs) → (x : X) × IsAmong x xs × IsAmong y (f x)
  among_flat [] y m = absurd m
  among_flat (z ∷ xs) y m =
      elim (among_either y (f z) (flat_map f xs) m) [
        | inl here ↦ (z, inl refl, here)
        | inr later ↦ let h = among_flat xs y later in (h.0, inr h.1, h.2)
      ]

module _ {X : Type 0} (p : X → Bool) where
  pub among_filter : (xs : List X) (x : X) → IsAmong x (filter p xs) → IsAmong x xs × (p x ≡ true)
  among_filter [] x m = absurd m
  among_filter (z ∷ xs) x m = by_test (among_filter xs x) (p z) refl m
    where
      by_test : (IsAmong x (filter p xs) → IsAmong x xs × (p x ≡ true)) → (b : Bool) → p z ≡ b
          → IsAmong x (cond b (z ∷ filter p xs) (filter p xs)) → IsAmong x (z ∷ xs) × (p x ≡ true)
      by_test before true e (inl same) = (inl same, ap p (sym same) ∙ e)
      by_test before true e (inr later) = let h = before later in (inr h.0, h.1)
      by_test before false e later = let h = before later in (inr h.0, h.1)

  pub filter_among : (xs : List X) (x : X) → IsAmong x xs → p x ≡ true → IsAmong x (filter p xs)
  filter_among [] x m on = absurd m
  filter_among (z ∷ xs) x (inl same) on = (let here : p z ≡ true = ap p same ∙ on in rw here (inl same))
  filter_among (z ∷ xs) x (inr later) on = kept (p z) (filter_among xs x later on)
    where
      kept : (b : Bool) → IsAmong x (filter p xs) → IsAmong x (cond b (z ∷ filter p xs) (filter p xs))
      kept true h = inr h
      kept false h = h

pub among_range : (a n m : ℕ) → IsAmong m (range_with_len a n) → m < a + n
among_range a zero m h = absurd h
among_range a (suc n) m (inl e) = omega (arith, e)
among_range a (suc n) m (inr h) = let lt = among_range (a + 1) n m h in omega (arith, lt)

pub range_among : (a n i m : ℕ) → i < n → a + i ≡ m → IsAmong m (range_with_len a n)
range_among a zero i m lt is = absurd (omega (arith, lt))
range_among a (suc n) zero m lt is = inl (omega (arith, is))
range_among a (suc n) (suc i) m lt is = inr (range_among (a + 1) n i m (omega (arith, lt)) (omega (arith, is)))

pub map_at : {X Y : Type 0} (f : X → Y) (xs : List X) (i : ℕ) (d : X) → get_or (map f xs) i (f d) ≡ f (get_or xs i d)
map_at f [] i d = refl
map_at f (x ∷ xs) zero d = refl
map_at f (x ∷ xs) (suc i) d = map_at f xs i d

-- ---- walks that look for a number

module _ {X : Type 0} (f : X → ℕ) (n : ℕ) where
  pub any_yes : (xs : List X) → list_any (λ x. f x == n) xs ≡ true → IsAmong n (map f xs)
  any_yes [] h = absurd (cc)
  any_yes (x ∷ xs) h = by_test (any_yes xs) (f x == n) refl h
    where
      by_test : (list_any (λ y. f y == n) xs ≡ true → IsAmong n (map f xs)) → (b : Bool) → (f x == n) ≡ b →
          (b || list_any (λ y. f y == n) xs) ≡ true → IsAmong n (f x ∷ map f xs)
      by_test more true e h = inl ((Decides-eqb (f x) n).0 e)
      by_test more false e h = inr (more h)

  pub any_no : (xs : List X) → list_any (λ x. f x == n) xs ≡ false → IsAmong n (map f xs) → ⊥
  any_no [] h m = m
  any_no (x ∷ xs) h (inl e) =
      let yes : (f x == n) ≡ true = (Decides-eqb (f x) n).1 e in
      let no : (f x == n) ≡ false = (or_parts (f x == n) (list_any (λ y. f y == n) xs) h).0 in absurd (cc)
  any_no (x ∷ xs) h (inr m) = any_no xs (or_parts (f x == n) (list_any (λ y. f y == n) xs) h).1 m

map_id : (ns : List ℕ) → map (λ (n : ℕ). n) ns ≡ ns
map_id [] = refl
map_id (n ∷ ns) = ap (λ (ms : List ℕ). n ∷ ms) (map_id ns)

pub id_yes : (ids : List ℕ) (n : ℕ) → list_any (λ (m : ℕ). m == n) ids ≡ true → IsAmong n ids
id_yes ids n h = subst (λ ns. IsAmong n ns) (map_id ids) (any_yes (λ (m : ℕ). m) n ids h)

pub id_no : (ids : List ℕ) (n : ℕ) → list_any (λ (m : ℕ). m == n) ids ≡ false → IsAmong n ids → ⊥
id_no ids n h m = any_no (λ (m : ℕ). m) n ids h (subst (λ ns. IsAmong n ns) (sym (map_id ids)) m)

-- ---- numbers and marks

pub same_or_not : (m n : ℕ) (P : Type 0) → (m ≡ n → P) → (m ≢ n → P) → P
same_or_not m n P same other = by_test (m == n) refl
  where
    by_test : (b : Bool) → (m == n) ≡ b → P
    by_test true e = same ((Decides-eqb m n).0 e)
    by_test false e = other (λ p. let on : (m == n) ≡ true = (Decides-eqb m n).1 p in absurd (cc))

pub unmarked : (m n : ℕ) → get_or (replicate m false) n false ≡ false
unmarked zero n = refl
unmarked (suc m) zero = refl
unmarked (suc m) (suc n) = unmarked m n

pub length-unmarked : (m : ℕ) → length (replicate m false) ≡ m
length-unmarked zero = refl
length-unmarked (suc m) = ap suc (length-unmarked m)
