-- A loop over the places of a list changes one image after another.
use Rattle.std.proofs.Common.{◌≡◌, ℕ, zero, suc, ◌<◌, List, [], ◌∷◌, length, map, get_or, refl, sym, ap, ◌∙◌, arith}
use Rattle.std.proofs.Math.ListN.{set}
use Rattle.std.proofs.lemmas.List.{get_or_default, set-get_or}
use Rattle.images.specs.Image.{Image}
use Rattle.images.specs.Place.{IsPlaceOf}
use Rattle.images.specs.Sorted.{changed_at, changed_front}

-- what is read at a place has the place of its own id
pub own_place : (xs : List Image) (at : ℕ) (x : Image) → at < length xs → x ≡ get_or xs at x → IsPlaceOf xs x.id at
own_place xs at x lt read = record {
  within = lt;
  is = λ d. ap (λ (y : Image). y.id) (get_or_default xs at d x lt ∙ sym read);
}

pub set_at : (xs : List Image) (at : ℕ) (d : Image) (f : Image → Image)
    → set xs at (f (get_or xs at d)) ≡ changed_at xs at f
set_at [] at d f = refl
set_at (x ∷ xs) zero d f = refl
set_at (x ∷ xs) (suc at) d f = ap (λ (ys : List Image). x ∷ ys) (set_at xs at d f)

-- the same of what is read there
pub set_same : (xs : List Image) (at : ℕ) (x : Image) (f : Image → Image) → x ≡ get_or xs at x
    → set xs at (f x) ≡ changed_at xs at f
set_same xs at x f read = ap (λ (y : Image). set xs at (f y)) read ∙ set_at xs at x f

-- ---- for a loop over the places

pub front_none : (f : Image → Image) (xs : List Image) → changed_front xs 0 f ≡ xs
front_none f [] = refl
front_none f (x ∷ xs) = refl

pub front_all : (f : Image → Image) (xs : List Image) → changed_front xs (length xs) f ≡ map f xs
front_all f [] = refl
front_all f (x ∷ xs) = ap (λ (ys : List Image). f x ∷ ys) (front_all f xs)

pub front_length : (f : Image → Image) (xs : List Image) (n : ℕ) → length (changed_front xs n f) ≡ length xs
front_length f [] n = refl
front_length f (x ∷ xs) zero = refl
front_length f (x ∷ xs) (suc n) = ap suc (front_length f xs n)

-- behind the front all is as it was
front_next : (f : Image → Image) (xs : List Image) (n : ℕ) (d : Image)
    → get_or (changed_front xs n f) n d ≡ get_or xs n d
front_next f [] n d = refl
front_next f (x ∷ xs) zero d = refl
front_next f (x ∷ xs) (suc n) d = front_next f xs n d

front_set : (f : Image → Image) (xs : List Image) (n : ℕ) (d : Image) → n < length xs
    → set (changed_front xs n f) n (f (get_or xs n d)) ≡ changed_front xs (suc n) f
front_set f [] n d lt = absurd (omega arith)
front_set f (x ∷ xs) zero d lt = ap (λ (ys : List Image). f x ∷ ys) (sym (front_none f xs))
front_set f (x ∷ xs) (suc n) d lt = ap (λ (ys : List Image). f x ∷ ys) (front_set f xs n d (omega arith))

-- the image at the next place is changed
pub front_more : (f g : Image → Image) (xs ys : List Image) (n : ℕ) (d : Image) → n < length xs
    → ys ≡ changed_front xs n f → f (get_or ys n d) ≡ g (get_or ys n d)
    → changed_at ys n g ≡ changed_front xs (suc n) f
front_more f g xs ys n d lt is same =
    sym (set_at ys n d g) ∙ ap (λ (y : Image). set ys n y) (sym same)
    ∙ (λ i. set (is i) n (f (get_or (is i) n d)))
    ∙ ap (λ (y : Image). set (changed_front xs n f) n (f y)) (front_next f xs n d) ∙ front_set f xs n d lt

-- it stays as it is
pub front_same : (f : Image → Image) (xs ys : List Image) (n : ℕ) (d : Image) → n < length xs
    → ys ≡ changed_front xs n f → f (get_or ys n d) ≡ get_or ys n d → ys ≡ changed_front xs (suc n) f
front_same f xs ys n d lt is same =
    sym (set-get_or ys n d) ∙ ap (λ (y : Image). set ys n y) (sym same)
    ∙ (λ i. set (is i) n (f (get_or (is i) n d)))
    ∙ ap (λ (y : Image). set (changed_front xs n f) n (f y)) (front_next f xs n d) ∙ front_set f xs n d lt
