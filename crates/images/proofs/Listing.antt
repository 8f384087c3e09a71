-- Images in a list by rising id.
use Rattle.std.proofs.Common.{◌≡◌, ℕ, zero, suc, ◌<◌, ◌≤◌, Bool, true, false, List, [], ◌∷◌, length, get_or, refl, sym}
use Rattle.std.proofs.Common.{ap, ◌∙◌, arith}
use Rattle.std.proofs.Math.ListN.{set}
use Rattle.std.specs.Prelude.{◌==◌, Some, None, remove}
use Rattle.std.specs.List.{AllByRecursion}
use Rattle.std.proofs.lemmas.Bool.{eqb-true}
use Rattle.std.proofs.lemmas.Bool.Decides.{nat_tests}
use Rattle.images.specs.Image.{Image}
use Rattle.images.specs.Sorted.{AreRising, image_of, changed, without}

-- ---- tests of ids

pub same_id : (a b : ℕ) → a ≡ b → (a == b) ≡ true
same_id a b is = grind (arith, nat_tests)

pub other_id : (a b : ℕ) → (a ≡ b → ⊥) → (a == b) ≡ false
other_id a b other = go (a == b) refl where
  go : (t : Bool) → (a == b) ≡ t → (a == b) ≡ false
  go true is = absurd (other (eqb-true a b is))
  go false is = is

-- ---- each of a list

pub all_at : (P : Image → Type 0) (xs : List Image) (at : ℕ) (d : Image) → AllByRecursion P xs → at < length xs
    → P (get_or xs at d)
all_at P [] at d all lt = absurd (omega arith)
all_at P (x ∷ xs) zero d all lt = all.0
all_at P (x ∷ xs) (suc at) d all lt = all_at P xs at d all.1 (omega arith)

pub all_set : (P : Image → Type 0) (xs : List Image) (at : ℕ) (y : Image) → AllByRecursion P xs → P y
    → AllByRecursion P (set xs at y)
all_set P [] at y all new = tt
all_set P (x ∷ xs) zero y all new = (new, all.1)
all_set P (x ∷ xs) (suc at) y all new = (all.0, all_set P xs at y all.1 new)

pub all_without : (P : Image → Type 0) (xs : List Image) (id : ℕ) → AllByRecursion P xs
    → AllByRecursion P (without xs id)
all_without P [] id all = tt
all_without P (x ∷ xs) id all = go (x.id == id) refl (all_without P xs id all.1)
  where
    go : (t : Bool) → (x.id == id) ≡ t → AllByRecursion P (without xs id) → AllByRecursion P (without (x ∷ xs) id)
    go true is rest = rw is rest
    go false is rest = rw is (all.0, rest)

-- ---- none of this id

abbrev pub IsAbsent : List Image → ℕ → Type 0
IsAbsent xs id = AllByRecursion (λ (x : Image). x.id ≡ id → ⊥) xs

pub absent_above : (xs : List Image) (n id : ℕ) → AllByRecursion (λ (x : Image). n < x.id) xs → id ≤ n → IsAbsent xs id
absent_above [] n id all le = tt
absent_above (x ∷ xs) n id all le =
    let lt = all.0 in ((λ (e : x.id ≡ id). omega arith), absent_above xs n id all.1 le)

pub image_absent : (xs : List Image) (id : ℕ) → IsAbsent xs id → image_of xs id ≡ None
image_absent [] id all = refl
image_absent (x ∷ xs) id all = let test = other_id x.id id all.0 in rw test (image_absent xs id all.1)

pub changed_absent : (xs : List Image) (id : ℕ) (f : Image → Image) → IsAbsent xs id → changed xs id f ≡ xs
changed_absent [] id f all = refl
changed_absent (x ∷ xs) id f all =
    let test = other_id x.id id all.0 in rw test (ap (λ (ys : List Image). x ∷ ys) (changed_absent xs id f all.1))

pub without_absent : (xs : List Image) (id : ℕ) → IsAbsent xs id → without xs id ≡ xs
without_absent [] id all = refl
without_absent (x ∷ xs) id all =
    let test = other_id x.id id all.0 in rw test (ap (λ (ys : List Image). x ∷ ys) (without_absent xs id all.1))

pub absent_from_none : (xs : List Image) (id : ℕ) → image_of xs id ≡ None → IsAbsent xs id
absent_from_none [] id none = tt
absent_from_none (x ∷ xs) id none = go (x.id == id) refl (absent_from_none xs id)
  where
    go : (t : Bool) → (x.id == id) ≡ t → (image_of xs id ≡ None → IsAbsent xs id) → IsAbsent (x ∷ xs) id
    go true is rest = (let never : Some x ≡ None = rw is at none in absurd (cc))
    go false is rest =
        let later : image_of xs id ≡ None = rw is at none in (
          (λ (e : x.id ≡ id). (let t = same_id x.id id e in let never : true ≡ false = sym t ∙ is in
              absurd (cc))),
          rest later,
        )

-- ---- the one at a place

later_is_other : (x : Image) (xs : List Image) (id at : ℕ) (d : Image) → AreRising (x ∷ xs) → at < length xs
    → (get_or xs at d).id ≡ id
    → (x.id == id) ≡ false
later_is_other x xs id at d rising lt is =
    let above = all_at (λ (other : Image). x.id < other.id) xs at d rising.0 lt in
    other_id x.id id (λ (e : x.id ≡ id). omega arith)

pub image_at : (xs : List Image) (id at : ℕ) (d : Image) → AreRising xs → at < length xs → (get_or xs at d).id ≡ id
    → image_of xs id ≡ Some (get_or xs at d)
image_at [] id at d rising lt is = absurd (omega arith)
image_at (x ∷ xs) id zero d rising lt is = let test = same_id x.id id is in rw test refl
image_at (x ∷ xs) id (suc at) d rising lt is =
    let test = later_is_other x xs id at d rising (omega arith) is in
    rw test (image_at xs id at d rising.1 (omega arith) is)

pub changed_by_id : (xs : List Image) (id at : ℕ) (d : Image) (f : Image → Image) → AreRising xs → at < length xs
    → (get_or xs at d).id ≡ id
    → set xs at (f (get_or xs at d)) ≡ changed xs id f
changed_by_id [] id at d f rising lt is = absurd (omega arith)
changed_by_id (x ∷ xs) id zero d f rising lt is =
    let test = same_id x.id id is in
    let rest = changed_absent xs id f (absent_above xs x.id id rising.0 (omega arith)) in
    rw test (ap (λ (ys : List Image). f x ∷ ys) (sym rest))
changed_by_id (x ∷ xs) id (suc at) d f rising lt is =
    let test = later_is_other x xs id at d rising (omega arith) is in
    rw test (ap (λ (ys : List Image). x ∷ ys) (changed_by_id xs id at d f rising.1 (omega arith) is))

pub without_at : (xs : List Image) (id at : ℕ) (d : Image) → AreRising xs → at < length xs → (get_or xs at d).id ≡ id
    → remove xs at ≡ without xs id
without_at [] id at d rising lt is = absurd (omega arith)
without_at (x ∷ xs) id zero d rising lt is =
    let test = same_id x.id id is in
    let rest = without_absent xs id (absent_above xs x.id id rising.0 (omega arith)) in
    rw test (sym rest)
without_at (x ∷ xs) id (suc at) d rising lt is =
    let test = later_is_other x xs id at d rising (omega arith) is in
    rw test (ap (λ (ys : List Image). x ∷ ys) (without_at xs id at d rising.1 (omega arith) is))

-- ---- the order

pub rising_set : (xs : List Image) (at : ℕ) (d y : Image) → AreRising xs → at < length xs → y.id ≡ (get_or xs at d).id
    → AreRising (set xs at y)
rising_set [] at d y rising lt is = tt
rising_set (x ∷ xs) zero d y rising lt is = (above xs rising.0, rising.1)
  where
    above : (zs : List Image) → AllByRecursion (λ (other : Image). x.id < other.id) zs
        → AllByRecursion (λ (other : Image). y.id < other.id) zs
    above [] all = tt
    above (z ∷ zs) all = (rw is all.0, above zs all.1)
rising_set (x ∷ xs) (suc at) d y rising lt is =
    let own = all_at (λ (other : Image). x.id < other.id) xs at d rising.0 (omega arith) in
    let lower : x.id < y.id = omega arith in (
      all_set (λ (other : Image). x.id < other.id) xs at y rising.0 lower,
      rising_set xs at d y rising.1 (omega arith) is,
    )

pub rising_without : (xs : List Image) (id : ℕ) → AreRising xs → AreRising (without xs id)
rising_without [] id rising = tt
rising_without (x ∷ xs) id rising = go (x.id == id) refl (rising_without xs id rising.1)
  where
    go : (t : Bool) → (x.id == id) ≡ t → AreRising (without xs id) → AreRising (without (x ∷ xs) id)
    go true is rest = rw is rest
    go false is rest = rw is (all_without (λ (other : Image). x.id < other.id) xs id rising.0, rest)
