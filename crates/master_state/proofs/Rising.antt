-- Lists of rising ids still rise once ids are put in or left out.
use Rattle.std.proofs.Common.{◌≡◌, ℕ, zero, suc, ◌+◌, ◌<◌, ◌≤◌, Bool, true, false, List, [], ◌∷◌, ◌++◌, length, refl}
use Rattle.std.proofs.Common.{sym, ap, subst, ◌∙◌, arith}
use Rattle.std.specs.Prelude.{◌==◌, ◌||◌, nat_lt, slice_index}
use Rattle.std.specs.List.{AllByRecursion, range_with_len}
use Rattle.std.specs.List.Sorted.{IsStrictlyIncreasing}
use Rattle.std.proofs.lemmas.Bool.{ltb-true, ltb-false, lt-ltb, le-ltb, eqb-true}
use Rattle.std.proofs.lemmas.Bool.Decides.{nat_tests}
use Rattle.log_head.specs.log_laws.Ids.{has, inserted, all_inserted, without}

-- each id is below all that come after it
abbrev pub Rise : List ℕ → Type 0
Rise [] = Unit {0}
Rise (s ∷ ids) = AllByRecursion (λ (z : ℕ). s < z) ids × Rise ids

-- ---- each of them

pub all_raised : (a b : ℕ) (ids : List ℕ) → a ≤ b → AllByRecursion (λ (z : ℕ). b < z) ids
    → AllByRecursion (λ (z : ℕ). a < z) ids
all_raised a b [] le all = tt
all_raised a b (z ∷ ids) le all = (let lt = all.0 in (omega arith, all_raised a b ids le all.1))

pub all_put : (P : ℕ → Type 0) (s : ℕ) (ids : List ℕ) → AllByRecursion P ids → P s → AllByRecursion P (inserted s ids)
all_put P s [] all own = (own, tt)
all_put P s (z ∷ ids) all own = go (nat_lt s z) refl (all_put P s ids all.1 own) where
  go : (t : Bool) → nat_lt s z ≡ t → AllByRecursion P (inserted s ids) → AllByRecursion P (inserted s (z ∷ ids))
  go true is later = rw is (own, all)
  go false is later = rw is (all.0, later)

pub all_left : (P : ℕ → Type 0) (victims ids : List ℕ) → AllByRecursion P ids → AllByRecursion P (without victims ids)
all_left P victims [] all = tt
all_left P victims (z ∷ ids) all = go (has victims z) refl (all_left P victims ids all.1) where
  go : (t : Bool) → has victims z ≡ t → AllByRecursion P (without victims ids)
      → AllByRecursion P (without victims (z ∷ ids))
  go true is later = rw is later
  go false is later = rw is (all.0, later)

-- ---- they rise as std has it

above_next : (s : ℕ) (ids : List ℕ) → 0 < length ids → s < slice_index ids 0 → Rise ids
    → AllByRecursion (λ (z : ℕ). s < z) ids
above_next s [] some lt rise = tt
above_next s (z ∷ ids) some lt rise = (lt, all_raised s z ids (omega arith) rise.0)

pub rises_of : (ids : List ℕ) → IsStrictlyIncreasing ids → Rise ids
rises_of [] up = tt
rises_of (s ∷ []) up = (tt, tt)
rises_of (s ∷ z ∷ ids) up =
    let later : Rise (z ∷ ids) = rises_of (z ∷ ids) (λ k within. let e : suc k + 1 ≡ suc (k + 1) = omega arith in
    subst (λ (n : ℕ). slice_index (z ∷ ids) k < slice_index (s ∷ z ∷ ids) n) e (up (suc k) (omega arith))) in
    (above_next s (z ∷ ids) (omega arith) (up 0 (omega arith)) later, later)

pub increasing : (ids : List ℕ) → Rise ids → IsStrictlyIncreasing ids
increasing [] rise k within = absurd (omega arith)
increasing (s ∷ []) rise k within = absurd (omega arith)
increasing (s ∷ z ∷ ids) rise zero within = rise.0.0
increasing (s ∷ z ∷ ids) rise (suc k) within =
    let next : suc k + 1 ≡ suc (k + 1) = omega arith in
    rw next (increasing (z ∷ ids) rise.1 k (omega arith))

-- the last is above all others
pub all_below : (ids : List ℕ) (top : ℕ) → Rise (ids ++ top ∷ []) → AllByRecursion (λ (z : ℕ). z < top) ids
all_below [] top rise = tt
all_below (s ∷ ids) top rise = (last ids rise.0, all_below ids top rise.1) where
  last : (zs : List ℕ) → AllByRecursion (λ (z : ℕ). s < z) (zs ++ top ∷ []) → s < top
  last [] all = all.0
  last (z ∷ zs) all = last zs all.1

pub rise_front : (ids : List ℕ) (top : ℕ) → Rise (ids ++ top ∷ []) → Rise ids
rise_front [] top rise = tt
rise_front (s ∷ ids) top rise = (front ids rise.0, rise_front ids top rise.1) where
  front : (zs : List ℕ) → AllByRecursion (λ (z : ℕ). s < z) (zs ++ top ∷ []) → AllByRecursion (λ (z : ℕ). s < z) zs
  front [] all = tt
  front (z ∷ zs) all = (all.0, front zs all.1)

pub rise_more : (ids : List ℕ) (top : ℕ) → Rise ids → AllByRecursion (λ (z : ℕ). z < top) ids → Rise (ids ++ top ∷ [])
rise_more [] top rise below = (tt, tt)
rise_more (s ∷ ids) top rise below = (more ids rise.0, rise_more ids top rise.1 below.1) where
  more : (zs : List ℕ) → AllByRecursion (λ (z : ℕ). s < z) zs → AllByRecursion (λ (z : ℕ). s < z) (zs ++ top ∷ [])
  more [] all = (below.0, tt)
  more (z ∷ zs) all = (all.0, more zs all.1)

-- ---- which ids are there

pub has_more : (ids : List ℕ) (top s : ℕ) → has (ids ++ top ∷ []) s ≡ (has ids s || (top == s))
has_more [] top s = go (top == s) where
  go : (t : Bool) → (t || false) ≡ t
  go true = refl
  go false = refl
has_more (z ∷ ids) top s = go (z == s) (has_more ids top s) where
  go : (t : Bool) → has (ids ++ top ∷ []) s ≡ (has ids s || (top == s))
      → (t || has (ids ++ top ∷ []) s) ≡ ((t || has ids s) || (top == s))
  go true later = refl
  go false later = later

pub has_put : (s : ℕ) (ids : List ℕ) (x : ℕ) → has (inserted s ids) x ≡ ((s == x) || has ids x)
has_put s [] x = refl
has_put s (z ∷ ids) x = go (nat_lt s z) refl (has_put s ids x) where
  swap : (a b c : Bool) → (a || (b || c)) ≡ (b || (a || c))
  swap true true c = refl
  swap true false c = refl
  swap false true c = refl
  swap false false c = refl

  go : (t : Bool) → nat_lt s z ≡ t → has (inserted s ids) x ≡ ((s == x) || has ids x)
      → has (inserted s (z ∷ ids)) x ≡ ((s == x) || has (z ∷ ids) x)
  go true is later = rw is refl
  go false is later = rw is (ap (λ (b : Bool). (z == x) || b) later ∙ swap (z == x) (s == x) (has ids x))

-- an id that all others are above, or below, isn't there
pub has_not : (P : ℕ → Type 0) (ids : List ℕ) (s : ℕ) → AllByRecursion P ids → (P s → ⊥) → has ids s ≡ false
has_not P [] s all never = refl
has_not P (z ∷ ids) s all never = go (z == s) refl (has_not P ids s all.1 never) where
  go : (t : Bool) → (z == s) ≡ t → has ids s ≡ false → has (z ∷ ids) s ≡ false
  go true is later = absurd (never (subst P (eqb-true z s is) all.0))
  go false is later = rw is later

pub none_left : (victims ids : List ℕ) (s : ℕ) → has ids s ≡ false → has (without victims ids) s ≡ false
none_left victims [] s none = refl
none_left victims (z ∷ ids) s none = go (has victims z) refl (z == s) refl (λ rest. none_left victims ids s rest) where
  go : (t : Bool) → has victims z ≡ t → (u : Bool) → (z == s) ≡ u
      → (has ids s ≡ false → has (without victims ids) s ≡ false)
      → has (without victims (z ∷ ids)) s ≡ false
  go t is true same later = (let never : true ≡ false = rw same at none in absurd (cc))
  go true is false other later = (let rest : has ids s ≡ false = rw other at none in rw is (later rest))
  go false is false other later = (let rest : has ids s ≡ false = rw other at none in rw (is, other) (later rest))

-- ---- one more

pub length_put : (s : ℕ) (ids : List ℕ) → length (inserted s ids) ≡ length ids + 1
length_put s [] = refl
length_put s (z ∷ ids) = go (nat_lt s z) refl (length_put s ids) where
  go : (t : Bool) → nat_lt s z ≡ t → length (inserted s ids) ≡ length ids + 1
      → length (inserted s (z ∷ ids)) ≡ length (z ∷ ids) + 1
  go true is later = rw is (omega arith)
  go false is later = rw is (omega arith)

-- in front of all that are above it, and behind all that are below it
put_first : (s : ℕ) (ids : List ℕ) → AllByRecursion (λ (z : ℕ). s < z) ids → inserted s ids ≡ s ∷ ids
put_first s [] all = refl
put_first s (z ∷ ids) all = (let test = lt-ltb s z all.0 in rw test refl)

pub put_last : (s : ℕ) (ids : List ℕ) → AllByRecursion (λ (z : ℕ). z < s) ids → inserted s ids ≡ ids ++ s ∷ []
put_last s [] all = refl
put_last s (z ∷ ids) all =
    let lt = all.0 in
    let test = le-ltb s z (omega arith) in
    rw test (ap (λ (zs : List ℕ). z ∷ zs) (put_last s ids all.1))

pub rise_put : (s : ℕ) (ids : List ℕ) → has ids s ≡ false → Rise ids → Rise (inserted s ids)
rise_put s [] none rise = (tt, tt)
rise_put s (z ∷ ids) none rise = go (nat_lt s z) refl (z == s) refl (λ rest. rise_put s ids rest rise.1) where
  go : (t : Bool) → nat_lt s z ≡ t → (u : Bool) → (z == s) ≡ u → (has ids s ≡ false → Rise (inserted s ids))
      → Rise (inserted s (z ∷ ids))
  go t is true same later = (let never : true ≡ false = rw same at none in absurd (cc))
  go true is false other later = (let lt = ltb-true s z is in
      rw is ((lt, all_raised s z ids (omega arith) rise.0), rise))
  go false is false other later =
      let rest : has ids s ≡ false = rw other at none in
      let above : z < s = grind (arith, nat_tests) in
      rw is (all_put (λ (x : ℕ). z < x) s ids rise.0 above, later rest)

-- two ids may come in either order
twice : (a b : ℕ) (ids : List ℕ) → a < b → inserted a (inserted b ids) ≡ inserted b (inserted a ids)
twice a b [] lt =
    let first = lt-ltb a b lt in
    let then = le-ltb b a (omega arith) in
    rw (first, then) refl
twice a b (z ∷ ids) lt = go (nat_lt a z) refl (nat_lt b z) refl (twice a b ids lt) where
  go : (t : Bool) → nat_lt a z ≡ t → (u : Bool) → nat_lt b z ≡ u
      → inserted a (inserted b ids) ≡ inserted b (inserted a ids)
      → inserted a (inserted b (z ∷ ids)) ≡ inserted b (inserted a (z ∷ ids))
  go true is true later rest =
      let first = lt-ltb a b lt in
      let then = le-ltb b a (omega arith) in
      rw (is, later, first, then) refl
  go true is false later rest =
      let then = le-ltb b a (omega arith) in
      rw (is, later, then) (rw is refl)
  go false is true later rest = (let below = ltb-true b z later in let above = ltb-false a z is in absurd (omega arith))
  go false is false later rest = rw (is, later) (rw is (ap (λ (zs : List ℕ). z ∷ zs) rest))

pub put_twice : (a b : ℕ) (ids : List ℕ) → inserted a (inserted b ids) ≡ inserted b (inserted a ids)
put_twice a b ids = go (nat_lt a b) refl (nat_lt b a) refl where
  go : (t : Bool) → nat_lt a b ≡ t → (u : Bool) → nat_lt b a ≡ u
      → inserted a (inserted b ids) ≡ inserted b (inserted a ids)
  go true is u later = twice a b ids (ltb-true a b is)
  go false is true later = sym (twice b a ids (ltb-true b a later))
  go false is false later =
      let le = ltb-false a b is in
      let ge = ltb-false b a later in
      let same : a ≡ b = omega arith in
      λ i. inserted (same i) (inserted (sym same i) ids)

-- the top comes behind an id that is put among the others
pub put_top : (top s : ℕ) (ids : List ℕ) → AllByRecursion (λ (z : ℕ). z < top) ids
    → inserted top (inserted s ids) ≡ inserted s (ids ++ top ∷ [])
put_top top s ids below = put_twice top s ids ∙ ap (inserted s) (put_last top ids below)

pub all_top : (top : ℕ) (more ids : List ℕ) → AllByRecursion (λ (z : ℕ). z < top) ids
    → inserted top (all_inserted more ids) ≡ all_inserted more (ids ++ top ∷ [])
all_top top [] ids below = put_last top ids below
all_top top (s ∷ more) ids below = put_twice top s (all_inserted more ids)
    ∙ ap (inserted s) (all_top top more ids below)

-- ---- several more

all_above : (low first count : ℕ) → low < first → AllByRecursion (λ (z : ℕ). low < z) (range_with_len first count)
all_above low first zero lt = tt
all_above low first (suc n) lt = (lt, all_above low (first + 1) n (omega arith))

-- ids that follow one another rise
pub rise_range : (first count : ℕ) → Rise (range_with_len first count)
rise_range first zero = tt
rise_range first (suc n) = (all_above first (first + 1) n (omega arith), rise_range (first + 1) n)

pub has_all : (more ids : List ℕ) (x : ℕ) → has (all_inserted more ids) x ≡ (has more x || has ids x)
has_all [] ids x = refl
has_all (s ∷ more) ids x =
    has_put s (all_inserted more ids) x
    ∙ ap (λ (b : Bool). (s == x) || b) (has_all more ids x)
    ∙ joined (s == x) (has more x) (has ids x)
  where
    joined : (a b c : Bool) → (a || (b || c)) ≡ ((a || b) || c)
    joined true b c = refl
    joined false b c = refl

pub length_all : (more ids : List ℕ) → length (all_inserted more ids) ≡ length ids + length more
length_all [] ids = omega arith
length_all (s ∷ more) ids =
    let here = length_put s (all_inserted more ids) in let later = length_all more ids in omega arith

pub all_put_all : (P : ℕ → Type 0) (more ids : List ℕ) → AllByRecursion P ids → AllByRecursion P more
    → AllByRecursion P (all_inserted more ids)
all_put_all P [] ids all own = all
all_put_all P (s ∷ more) ids all own =
    all_put P s (all_inserted more ids) (all_put_all P more ids all own.1) own.0

-- none of the first is one of the second
abbrev pub AreOut : List ℕ → List ℕ → Type 0
AreOut more ids = AllByRecursion (λ (s : ℕ). has ids s ≡ false) more

pub rise_all : (more ids : List ℕ) → AreOut more ids → Rise more → Rise ids → Rise (all_inserted more ids)
rise_all [] ids out own rise = rise
rise_all (s ∷ more) ids out own rise =
    let later = has_not (λ (z : ℕ). s < z) more s own.0 (λ lt. omega arith) in
    let none : has (all_inserted more ids) s ≡ false = has_all more ids s ∙ (rw later out.0) in
    rise_put s (all_inserted more ids) none (rise_all more ids out.1 own.1 rise)

-- ---- some less

pub without_none : (ids : List ℕ) → without [] ids ≡ ids
without_none [] = refl
without_none (s ∷ ids) = ap (λ (zs : List ℕ). s ∷ zs) (without_none ids)

pub rise_left : (victims ids : List ℕ) → Rise ids → Rise (without victims ids)
rise_left victims [] rise = tt
rise_left victims (z ∷ ids) rise = go (has victims z) refl (rise_left victims ids rise.1) where
  go : (t : Bool) → has victims z ≡ t → Rise (without victims ids) → Rise (without victims (z ∷ ids))
  go true is later = rw is later
  go false is later = rw is (all_left (λ (x : ℕ). z < x) victims ids rise.0, later)

-- an id that stays may be put among them before or after
pub without_put : (victims : List ℕ) (s : ℕ) (ids : List ℕ) → has victims s ≡ false → Rise ids
    → without victims (inserted s ids) ≡ inserted s (without victims ids)
without_put victims s [] stays rise = rw stays refl
without_put victims s (z ∷ ids) stays rise = go (nat_lt s z) refl (has victims z) refl
    (without_put victims s ids stays rise.1) where
      go : (t : Bool) → nat_lt s z ≡ t → (u : Bool) → has victims z ≡ u
          → without victims (inserted s ids) ≡ inserted s (without victims ids)
          → without victims (inserted s (z ∷ ids)) ≡ inserted s (without victims (z ∷ ids))
      go true is true goes later =
          let lt = ltb-true s z is in
          let above = all_left (λ (x : ℕ). s < x) victims ids (all_raised s z ids (omega arith) rise.0) in
          rw (is, stays, goes) (sym (put_first s (without victims ids) above))
      go true is false goes later = rw (is, stays, goes) (rw is refl)
      go false is true goes later = rw (is, goes) later
      go false is false goes later = rw (is, goes) (rw is (ap (λ (zs : List ℕ). z ∷ zs) later))

-- ids that stay may be put among them before or after
pub without_all : (victims more ids : List ℕ) → AllByRecursion (λ (s : ℕ). has victims s ≡ false) more
    → AreOut more ids → Rise more → Rise ids
    → without victims (all_inserted more ids) ≡ all_inserted more (without victims ids)
without_all victims [] ids stay out own rise = refl
without_all victims (s ∷ more) ids stay out own rise =
    without_put victims s (all_inserted more ids) stay.0 (rise_all more ids out.1 own.1 rise)
    ∙ ap (inserted s) (without_all victims more ids stay.1 out.1 own.1 rise)
