-- Members of lists.
use Rattle.std.proofs.Common.{◌≡◌, ℕ, zero, suc, ◌<◌, List, [], ◌∷◌, ◌++◌, length}
use Rattle.std.proofs.Common.{map, get_or, refl, sym, ap, ◌⊎◌, inl, inr, arith}
use Rattle.std.specs.Prelude.{Contains}
use Rattle.std.specs.List.Sorted.{IsPermutation}
use Rattle.std.proofs.lemmas.List.Elements.{Contains-append_left, Contains-append_right, Contains-append_cases}
use Rattle.std.proofs.lemmas.List.Elements.{Contains-push_cases}
use Rattle.std.proofs.lemmas.List.Sorted.{Contains-permutation}
use Rattle.entry.specs.Bag.{IsAmong}

-- ---- places

-- a member is at some place
pub among_place : {X : Type 0} (x : X) (xs : List X) → IsAmong x xs → Contains xs x
among_place x [] m = absurd m
among_place x (y ∷ ys) (inl e) = (0, omega arith, e)
among_place x (y ∷ ys) (inr m) = let at = among_place x ys m in let lt = at.1 in (suc at.0, omega arith, at.2)

-- what is at a place is a member
pub among_at : {X : Type 0} (xs : List X) (i : ℕ) (x : X) → i < length xs → x ≡ get_or xs i x → IsAmong x xs
among_at [] i x lt is = absurd (omega arith)
among_at (y ∷ ys) zero x lt is = inl (sym is)
among_at (y ∷ ys) (suc i) x lt is = inr (among_at ys i x (omega arith) is)

pub among_from_contains : {X : Type 0} (x : X) (xs : List X) → Contains xs x → IsAmong x xs
among_from_contains x xs (i, lt, is) = among_at xs i x lt (sym is)

-- ---- one list behind another

pub among_left : {X : Type 0} (x : X) (xs ys : List X) → IsAmong x xs → IsAmong x (xs ++ ys)
among_left x xs ys m = among_from_contains x (xs ++ ys) (Contains-append_left xs ys x (among_place x xs m))

pub among_right : {X : Type 0} (x : X) (xs ys : List X) → IsAmong x ys → IsAmong x (xs ++ ys)
among_right x xs ys m = among_from_contains x (xs ++ ys) (Contains-append_right xs ys x (among_place x ys m))

pub among_either : {X : Type 0} (x : X) (xs ys : List X) → IsAmong x (xs ++ ys) → IsAmong x xs ⊎ IsAmong x ys
among_either x xs ys m =
    elim (Contains-append_cases xs ys x (among_place x (xs ++ ys) m)) [
      | inl before ↦ inl (among_from_contains x xs before)
      | inr after ↦ inr (among_from_contains x ys after)
    ]

-- ---- one element more

pub among_last : {X : Type 0} (xs : List X) (x : X) → IsAmong x (xs ++ x ∷ [])
among_last xs x = among_right x xs (x ∷ []) (inl refl)

pub among_push : {X : Type 0} (x : X) (xs : List X) (y : X) → IsAmong x (xs ++ y ∷ []) → IsAmong x xs ⊎ (y ≡ x)
among_push x xs y m =
    elim (Contains-push_cases xs y x (among_place x (xs ++ y ∷ []) m)) [
      | inl before ↦ inl (among_from_contains x xs before)
      | inr last ↦ inr last
    ]

-- ---- other lists of the same elements

pub among_permutation : {X : Type 0} (x : X) (xs ys : List X) → IsPermutation xs ys → IsAmong x xs → IsAmong x ys
among_permutation x xs ys p m = among_from_contains x ys (Contains-permutation xs ys x p (among_place x xs m))

-- ---- images

pub among_image : {X Y : Type 0} (f : X → Y) (xs : List X) (x : X) → IsAmong x xs → IsAmong (f x) (map f xs)
among_image f [] x m = m
among_image f (y ∷ ys) x (inl e) = inl (ap f e)
among_image f (y ∷ ys) x (inr m) = inr (among_image f ys x m)

pub among_images : {X Y : Type 0} (f : X → Y) (xs : List X) (y : Y) → IsAmong y (map f xs)
    → (x : X) × IsAmong x xs × (f x ≡ y)
among_images f [] y m = absurd m
among_images f (x ∷ xs) y (inl e) = (x, inl refl, e)
among_images f (x ∷ xs) y (inr m) = let there = among_images f xs y m in (there.0, inr there.1, there.2)
