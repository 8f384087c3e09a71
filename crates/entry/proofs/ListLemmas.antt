-- Lists: a predicate that is true of each element, elements by their places, and a list that is written anew.
use Rattle.std.proofs.Common.{◌≡◌, ◌≤◌, ℕ, zero, suc, List, [], ◌∷◌, ◌++◌, length, take, Some, refl, ap, ◌∙◌, ◌⊎◌, inl}
use Rattle.std.proofs.Common.{inr}
use Rattle.std.proofs.Common.{append-nil, arith}
use Rattle.std.specs.List.{AllByRecursion, refill, slice_get}
use Rattle.std.proofs.lemmas.List.{drop_all, take_all}
use Rattle.std.proofs.lemmas.List.Elements.{All-from_recursion, recursion_from_All, All-append}
use Rattle.std.proofs.lemmas.List.Elements.{All-push, All-weaker, All-contains}
use Rattle.entry.specs.Bag.{IsAmong}
use Rattle.entry.proofs.BagLemmas.{among_place}

-- ---- what holds of each element

module _ {X : Type 0} (P : X → Type 0) where
  pub all_append : (xs ys : List X) → AllByRecursion P xs → AllByRecursion P ys → AllByRecursion P (xs ++ ys)
  all_append xs ys a b =
      recursion_from_All P (xs ++ ys) (All-append P xs ys (All-from_recursion P xs a) (All-from_recursion P ys b))

  pub all_split : (xs ys : List X) → AllByRecursion P (xs ++ ys) → AllByRecursion P xs × AllByRecursion P ys
  all_split [] ys all = (tt, all)
  all_split (x ∷ xs) ys all = let rest = all_split xs ys all.1 in ((all.0, rest.0), rest.1)

  pub all_push : (xs : List X) (x : X) → AllByRecursion P xs → P x → AllByRecursion P (xs ++ x ∷ [])
  all_push xs x all p = recursion_from_All P (xs ++ x ∷ []) (All-push P xs x (All-from_recursion P xs all) p)

  pub all_weaker : (Q : X → Type 0) → ((x : X) → P x → Q x) → (xs : List X) → AllByRecursion P xs → AllByRecursion Q xs
  all_weaker Q f xs all = recursion_from_All Q xs (All-weaker P Q f xs (All-from_recursion P xs all))

  -- what holds of each element holds of each member
  pub all_among : (xs : List X) (x : X) → AllByRecursion P xs → IsAmong x xs → P x
  all_among xs x all m = All-contains P xs x (All-from_recursion P xs all) (among_place x xs m)

  pub all_from_among : (xs : List X) → ((x : X) → IsAmong x xs → P x) → AllByRecursion P xs
  all_from_among [] each = tt
  all_from_among (x ∷ xs) each = (each x (inl refl), all_from_among xs (λ y m. each y (inr m)))

-- ---- the element at a place

pub slice_get_left : {X : Type 0} (xs ys : List X) (i : ℕ) (x : X) → slice_get xs i ≡ Some x
    → slice_get (xs ++ ys) i ≡ Some x
slice_get_left [] ys i x is = absurd (cc)
slice_get_left (z ∷ zs) ys zero x is = is
slice_get_left (z ∷ zs) ys (suc i) x is = slice_get_left zs ys i x is

pub slice_get_last : {X : Type 0} (xs : List X) (y : X) → slice_get (xs ++ y ∷ []) (length xs) ≡ Some y
slice_get_last [] y = refl
slice_get_last (x ∷ xs) y = slice_get_last xs y

pub slice_get_push : {X : Type 0} (xs : List X) (y : X) (i : ℕ) (x : X) → slice_get (xs ++ y ∷ []) i ≡ Some x
    → (slice_get xs i ≡ Some x) ⊎ ((i ≡ length xs) × (y ≡ x))
slice_get_push [] y zero x is = inr (refl, cc)
slice_get_push [] y (suc i) x is = absurd (cc)
slice_get_push (z ∷ zs) y zero x is = inl is
slice_get_push (z ∷ zs) y (suc i) x is =
    elim (slice_get_push zs y i x is) [ inl before ↦ inl before | inr last ↦ inr (ap suc last.0, last.1) ]

-- ---- a list that is written back

-- A list that fills all places takes the place of the old one.
pub written_back : {X : Type 0} (n : ℕ) (old new : List X) → length old ≤ length new → length new ≡ n
    → refill n old new ≡ new
written_back {X} n old new le len =
    ap (λ (xs : List X). take n (new ++ xs)) (drop_all (length new) old le)
    ∙ ap (λ (xs : List X). take n xs) (append-nil new)
    ∙ take_all n new (omega arith)
