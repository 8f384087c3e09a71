-- One more image in a list by rising id.
use Rattle.std.proofs.Common.{◌≡◌, ℕ, zero, suc, ◌+◌, ◌<◌, ◌≤◌, Bool, true, false, List, [], ◌∷◌, ◌++◌, length, get_or}
use Rattle.std.proofs.Common.{map, refl, sym, ap, ◌∙◌, arith}
use Rattle.std.specs.Prelude.{◌==◌, nat_lt, if◌then◌else◌, Option, Some, None, insert, sum_by}
use Rattle.std.specs.List.{AllByRecursion}
use Rattle.std.specs.Option.{option_map}
use Rattle.std.proofs.lemmas.Bool.{lt-ltb, le-ltb, ltb-true, ltb-false, eqb-true}
use Rattle.std.proofs.lemmas.List.Sums.{sum_by-cons}
use Rattle.images.specs.Image.{Image}
use Rattle.images.specs.Sorted.{AreRising, AreBelow, image_of, segment_of, added}
use Rattle.images.specs.Laws.{inserted}
use Rattle.images.proofs.Listing.{all_at, IsAbsent, image_absent, absent_from_none, other_id, same_id}

-- ---- its place

-- behind all that have no higher id
pub added_at : (xs : List Image) (i : ℕ) (y : Image) → i ≤ length xs
    → ((k : ℕ) (d : Image) → k < i → (get_or xs k d).id ≤ y.id)
    → ((k : ℕ) (d : Image) → i ≤ k → k < length xs → y.id < (get_or xs k d).id) → insert xs i y ≡ added y xs
added_at [] zero y le low high = refl
added_at [] (suc i) y le low high = absurd (omega arith)
added_at (x ∷ xs) zero y le low high =
    let test = lt-ltb y.id x.id (high zero x (omega arith) (omega arith)) in rw test refl
added_at (x ∷ xs) (suc i) y le low high =
    let test = le-ltb y.id x.id (low zero x (omega arith)) in
    rw test (ap (λ (ys : List Image). x ∷ ys) (added_at xs i y (omega arith)
    (λ (k : ℕ) (d : Image) (lt : k < i). low (suc k) d (omega arith))
    (λ (k : ℕ) (d : Image) (from : i ≤ k) (lt : k < length xs). high (suc k) d (omega arith) (omega arith))))

pub ids_rise : (xs : List Image) → AreRising xs → (i j : ℕ) (d : Image) → i ≤ j → j < length xs
    → (get_or xs i d).id ≤ (get_or xs j d).id
ids_rise [] rising i j d le lt = absurd (omega arith)
ids_rise (x ∷ xs) rising zero zero d le lt = omega arith
ids_rise (x ∷ xs) rising zero (suc j) d le lt =
    let above = all_at (λ (other : Image). x.id < other.id) xs j d rising.0 (omega arith) in omega arith
ids_rise (x ∷ xs) rising (suc i) zero d le lt = absurd (omega arith)
ids_rise (x ∷ xs) rising (suc i) (suc j) d le lt = ids_rise xs rising.1 i j d (omega arith) (omega arith)

-- above all others it comes last
pub added_last : (y : Image) (xs : List Image) → AreBelow y.id xs → added y xs ≡ xs ++ y ∷ []
added_last y [] below = refl
added_last y (x ∷ xs) below =
    let lt = below.0 in
    let test = le-ltb y.id x.id (omega arith) in
    rw test (ap (λ (ys : List Image). x ∷ ys) (added_last y xs below.1))

below_absent : (xs : List Image) (id : ℕ) → AreBelow id xs → IsAbsent xs id
below_absent [] id below = tt
below_absent (x ∷ xs) id below =
    let lt = below.0 in ((λ (e : x.id ≡ id). omega arith), below_absent xs id below.1)

pub below_none : (xs : List Image) (id : ℕ) → AreBelow id xs → image_of xs id ≡ None
below_none xs id below = image_absent xs id (below_absent xs id below)

pub newest_last : (y : Image) (xs : List Image) → AreBelow y.id xs → (image_of xs y.id ≡ None)
    × (added y xs ≡ xs ++ y ∷ [])
newest_last y xs below = (below_none xs y.id below, added_last y xs below)

-- ---- each of the list

pub all_added : (P : Image → Type 0) (y : Image) (xs : List Image) → AllByRecursion P xs → P y
    → AllByRecursion P (added y xs)
all_added P y [] all new = (new, tt)
all_added P y (x ∷ xs) all new = go (nat_lt y.id x.id) refl (all_added P y xs all.1 new)
  where
    go : (t : Bool) → nat_lt y.id x.id ≡ t → AllByRecursion P (added y xs) → AllByRecursion P (added y (x ∷ xs))
    go true is rest = rw is (new, all)
    go false is rest = rw is (all.0, rest)

lower : (m n : ℕ) (xs : List Image) → m ≤ n → AllByRecursion (λ (x : Image). n < x.id) xs
    → AllByRecursion (λ (x : Image). m < x.id) xs
lower m n [] le all = tt
lower m n (x ∷ xs) le all = (let lt = all.0 in (omega arith, lower m n xs le all.1))

pub rising_added : (y : Image) (xs : List Image) → AreRising xs → IsAbsent xs y.id → AreRising (added y xs)
rising_added y [] rising absent = (tt, tt)
rising_added y (x ∷ xs) rising absent = go (nat_lt y.id x.id) refl (rising_added y xs rising.1 absent.1)
  where
    other : x.id ≡ y.id → ⊥
    other = absent.0

    go : (t : Bool) → nat_lt y.id x.id ≡ t → AreRising (added y xs) → AreRising (added y (x ∷ xs))
    go true is rest = (let lt = ltb-true y.id x.id is in rw is
        ((lt, lower y.id x.id xs (omega arith) rising.0), rising))
    go false is rest =
        let le = ltb-false y.id x.id is in
        let above : x.id < y.id = omega (arith, other) in
        rw is (all_added (λ (z : Image). x.id < z.id) y xs rising.0 above, rest)

pub length_added : (y : Image) (xs : List Image) → length (added y xs) ≡ length xs + 1
length_added y [] = refl
length_added y (x ∷ xs) = go (nat_lt y.id x.id) refl (length_added y xs)
  where
    go : (t : Bool) → nat_lt y.id x.id ≡ t → length (added y xs) ≡ length xs + 1
        → length (added y (x ∷ xs)) ≡ length (x ∷ xs) + 1
    go true is rest = rw is (omega arith)
    go false is rest = rw is (omega arith)

pub sum_added : (f : Image → ℕ) (y : Image) (xs : List Image) → sum_by f (added y xs) ≡ sum_by f xs + f y
sum_added f y [] = refl
sum_added f y (x ∷ xs) = go (nat_lt y.id x.id) refl (sum_added f y xs)
  where
    go : (t : Bool) → nat_lt y.id x.id ≡ t → sum_by f (added y xs) ≡ sum_by f xs + f y
        → sum_by f (added y (x ∷ xs)) ≡ sum_by f (x ∷ xs) + f y
    go true is rest = rw is (let all = sum_by-cons f y (x ∷ xs) in omega arith)
    go false is rest = rw is (let all = sum_by-cons f x (added y xs) in let own = sum_by-cons f x xs in omega arith)

pub ids_added : (y : Image) (xs : List Image) → map (λ (x : Image). x.id) (added y xs)
    ≡ inserted y.id (map (λ (x : Image). x.id) xs)
ids_added y [] = refl
ids_added y (x ∷ xs) = go (nat_lt y.id x.id) refl (ids_added y xs)
  where
    go : (t : Bool) → nat_lt y.id x.id ≡ t → map (λ (z : Image). z.id) (added y xs)
        ≡ inserted y.id (map (λ (z : Image). z.id) xs)
        → map (λ (z : Image). z.id) (added y (x ∷ xs)) ≡ inserted y.id (map (λ (z : Image). z.id) (x ∷ xs))
    go true is rest = rw is refl
    go false is rest = rw is (ap (λ (ids : List ℕ). x.id ∷ ids) rest)

-- ---- which image is found

pub image_added : (y : Image) (xs : List Image) (id : ℕ) → IsAbsent xs y.id
    → image_of (added y xs) id ≡ if y.id == id then Some y else image_of xs id
image_added y [] id absent = refl
image_added y (x ∷ xs) id absent = go (nat_lt y.id x.id) refl (image_added y xs id absent.1)
  where
    found : (t : Bool) → (x.id == id) ≡ t → (image_of (added y xs) id ≡ if y.id == id then Some y else image_of xs id)
        → image_of (x ∷ added y xs) id ≡ if y.id == id then Some y else image_of (x ∷ xs) id
    found true is rest =
        let same : x.id ≡ id = eqb-true x.id id is in
        let test : (y.id == id) ≡ false = other_id y.id id (λ (e : y.id ≡ id). absent.0 (same ∙ sym e)) in
        rw (is, test) refl
    found false is rest = rw is rest

    go : (t : Bool) → nat_lt y.id x.id ≡ t → (image_of (added y xs) id ≡ if y.id == id then Some y else image_of xs id)
        → image_of (added y (x ∷ xs)) id ≡ if y.id == id then Some y else image_of (x ∷ xs) id
    go true is rest = rw is refl
    go false is rest = rw is (found (x.id == id) refl rest)

mapped_if : (t : Bool) (y : Image) (o : Option Image)
    → option_map (λ (x : Image). x.segment) (if t then Some y else o) ≡ if t then Some y.segment
    else option_map (λ (x : Image). x.segment) o
mapped_if true y o = refl
mapped_if false y o = refl

pub image_found : (y : Image) (xs : List Image) (id : ℕ) → image_of xs y.id ≡ None
    → image_of (added y xs) id ≡ if y.id == id then Some y else image_of xs id
image_found y xs id none = image_added y xs id (absent_from_none xs y.id none)

pub segment_found : (y : Image) (xs : List Image) (id : ℕ) → image_of xs y.id ≡ None
    → segment_of (added y xs) id ≡ if y.id == id then Some y.segment else segment_of xs id
segment_found y xs id none =
    ap (λ (o : Option Image). option_map (λ (x : Image). x.segment) o) (image_found y xs id none)
    ∙ mapped_if (y.id == id) y (image_of xs id)

-- the image that was added
pub image_own : (y : Image) (xs : List Image) → image_of xs y.id ≡ None → image_of (added y xs) y.id ≡ Some y
image_own y xs none =
    let test = same_id y.id y.id refl in
    image_found y xs y.id none ∙ (rw test refl)
