-- The homes of a segment's replicas: the backups that haven't failed, in the segment's order.
use Rattle.std.proofs.Common.{◌≡◌, ℕ, zero, suc, ◌+◌, ◌-◌, ◌*◌, ◌%◌, ◌<◌, ◌≤◌, Bool, true, false, List, [], ◌∷◌}
use Rattle.std.proofs.Common.{length, refl, sym, ap, ◌∙◌, arith}
use Rattle.std.specs.Prelude.{Option, Some, None, nat_lt, ◌==◌, ◌||◌, slice_get, unwrap_or, if◌then◌else◌}
use Rattle.std.specs.List.{AllByRecursion}
use Rattle.std.proofs.lemmas.Bool.{eqb-true, eqb-false, lt-ltb}
use Rattle.std.proofs.lemmas.Bool.Decides.{nat_tests}
use Rattle.std.proofs.lemmas.Nat.{mod_below}
use Rattle.std.proofs.Math.Nat.{add-mod_left, mod-eq_of_lt, mod-add-mod}
use Rattle.log_head.specs.log_laws.Ids.{has, without}
use Rattle.master_state.specs.declared.config.Config.{Config}
use Rattle.master_state.specs.Config.{config_fault}
use Rattle.master_state.specs.Invariant.{AreApart}
use Rattle.master_state.specs.Log.{backup_at, backups_from, working, home, placed, place_in}
use Rattle.master_state.specs.Steps.{less_by}
use Rattle.master_state.proofs.Refusals.{has_homes}
use Rattle.master_state.proofs.Rising.{all_left, none_left, without_none}

-- ---- backups of an order are apart

turned : (n r d : ℕ) → r < n → 0 < d → d < n → (b : Bool) → nat_lt (r + d) n ≡ b → (r + d) % n ≡ r → ⊥
turned n r d small some few true t e =
    let lt : r + d < n = grind (arith, nat_tests) in
    let is : (r + d) % n ≡ r + d = mod-eq_of_lt lt in omega arith
turned n r d small some few false t e =
    let ge : n ≤ r + d = grind (arith, nat_tests) in
    let split : n + (r + d - n) ≡ r + d = omega arith in
    let lt : r + d - n < n = omega arith in
    let is : (n + (r + d - n)) % n ≡ r + d - n = add-mod_left n (r + d - n) ∙ mod-eq_of_lt lt in
    let same : (r + d) % n ≡ r + d - n = ap (λ k. k % n) (sym split) ∙ is in omega arith

pub rests_differ : (n a b : ℕ) → 0 < n → a < b → b < a + n → a % n ≡ b % n → ⊥
rests_differ n a b pos lt near same =
    let sum : a + (b - a) ≡ b = omega arith in
    let back : (a % n + (b - a)) % n ≡ a % n = mod-add-mod a n (b - a) ∙ ap (λ k. k % n) sum ∙ sym same in
    turned n (a % n) (b - a) (mod_below a n pos) (omega arith) (omega arith) (nat_lt (a % n + (b - a)) n) refl back

-- ---- lists of numbers, each once

-- the number at a place
abbrev pub item : List ℕ → ℕ → ℕ
item xs j = unwrap_or (slice_get xs j) 0

-- the first so many, the last one first
abbrev pub first_of : List ℕ → ℕ → List ℕ
first_of xs zero = []
first_of xs (suc j) = item xs j ∷ first_of xs j

-- the place of a number among the first so many
abbrev pub place_of : List ℕ → ℕ → ℕ → Option ℕ
place_of xs zero b = None
place_of xs (suc j) b = if item xs j == b then Some j else place_of xs j b

pub has_item : (xs : List ℕ) (j : ℕ) → j < length xs → has xs (item xs j) ≡ true
has_item [] j lt = absurd (omega arith)
has_item (x ∷ xs) zero lt = let own : (x == x) ≡ true = grind (arith, nat_tests) in rw own refl
has_item (x ∷ xs) (suc j) lt = go (x == item xs j) (has_item xs j (omega arith)) where
  go : (t : Bool) → has xs (item xs j) ≡ true → (t || has xs (item xs j)) ≡ true
  go true is = refl
  go false is = is

-- a number that is there has a place
pub item_of : (xs : List ℕ) (b : ℕ) → has xs b ≡ true → (j : ℕ) × (j < length xs) × (item xs j ≡ b)
item_of [] b is = absurd (cc)
item_of (x ∷ xs) b is = go (x == b) refl (item_of xs b) is where
  go : (t : Bool) → (x == b) ≡ t → (has xs b ≡ true → (j : ℕ) × (j < length xs) × (item xs j ≡ b))
      → (t || has xs b) ≡ true → (j : ℕ) × (j < length (x ∷ xs)) × (item (x ∷ xs) j ≡ b)
  go true here later is = (0, omega arith, eqb-true x b here)
  go false away later is = (let at = later is in let lt = at.1 in (suc at.0, omega arith, at.2))

-- different places have different numbers
pub item_once : (xs : List ℕ) (i j : ℕ) → AreApart xs → i < j → j < length xs → item xs i ≡ item xs j → ⊥
item_once [] i j apart lt few same = absurd (omega arith)
item_once (x ∷ xs) zero zero apart lt few same = absurd (omega arith)
item_once (x ∷ xs) zero (suc j) apart lt few same =
    let there : has xs x ≡ true = ap (has xs) same ∙ has_item xs j (omega arith) in
    let not : has xs x ≡ false = apart.0 in absurd (cc)
item_once (x ∷ xs) (suc i) zero apart lt few same = absurd (omega arith)
item_once (x ∷ xs) (suc i) (suc j) apart lt few same =
    item_once xs i j apart.1 (omega arith) (omega arith) same

pub items_apart : (xs : List ℕ) (i j : ℕ) → AreApart xs → i < length xs → j < length xs → (i ≡ j → ⊥)
    → item xs i ≡ item xs j → ⊥
items_apart xs i j apart a b other same = by_order (nat_lt i j) refl (nat_lt j i) refl where
  by_order : (t : Bool) → nat_lt i j ≡ t → (u : Bool) → nat_lt j i ≡ u → ⊥
  by_order true t u w = item_once xs i j apart (grind (arith, nat_tests)) b same
  by_order false t true w = item_once xs j i apart (grind (arith, nat_tests)) a (sym same)
  by_order false t false w = (let eq : i ≡ j = grind (arith, nat_tests) in other eq)

pub item_all : (P : ℕ → Type 0) (xs : List ℕ) (j : ℕ) → AllByRecursion P xs → j < length xs → P (item xs j)
item_all P [] j all lt = absurd (omega arith)
item_all P (x ∷ xs) zero all lt = all.0
item_all P (x ∷ xs) (suc j) all lt = item_all P xs j all.1 (omega arith)

-- ---- the place of a number

pub place_is : (xs : List ℕ) (n b j : ℕ) → place_of xs n b ≡ Some j → (j < n) × (item xs j ≡ b)
place_is xs zero b j is = absurd (cc)
place_is xs (suc n) b j is = go (item xs n == b) refl (place_is xs n b j) is where
  go : (t : Bool) → (item xs n == b) ≡ t → (place_of xs n b ≡ Some j → (j < n) × (item xs j ≡ b))
      → (if t then Some n else place_of xs n b) ≡ Some j → (j < suc n) × (item xs j ≡ b)
  go true here later is =
      let own = eqb-true (item xs n) b here in
      let same : n ≡ j = cc in
      (omega arith, ap (item xs) (sym same) ∙ own)
  go false away later is = (let at = later is in let lt = at.0 in (omega arith, at.1))

pub place_none : (xs : List ℕ) (n b j : ℕ) → place_of xs n b ≡ None → j < n → item xs j ≡ b → ⊥
place_none xs zero b j is lt same = absurd (omega arith)
place_none xs (suc n) b j is lt same = go (item xs n == b) refl (nat_lt j n) refl (place_none xs n b j) is where
  go : (t : Bool) → (item xs n == b) ≡ t → (u : Bool) → nat_lt j n ≡ u
      → (place_of xs n b ≡ None → j < n → item xs j ≡ b → ⊥)
      → (if t then Some n else place_of xs n b) ≡ None → ⊥
  go true here u less later is = absurd (cc)
  go false away true less later is = later is (grind (arith, nat_tests)) same
  go false away false less later is =
      let at : j ≡ n = grind (arith, nat_tests) in
      eqb-false (item xs n) b away (ap (item xs) (sym at) ∙ same)

-- it has just one place
pub place_at : (xs : List ℕ) (n b j : ℕ) → AreApart xs → n ≤ length xs → j < n → item xs j ≡ b
    → place_of xs n b ≡ Some j
place_at xs n b j apart few lt same = go (place_of xs n b) refl where
  go : (o : Option ℕ) → place_of xs n b ≡ o → place_of xs n b ≡ Some j
  go None is = absurd (place_none xs n b j is lt same)
  go (Some i) is = by_same (i == j) refl where
    at : (i < n) × (item xs i ≡ b)
    at = place_is xs n b i is

    by_same : (t : Bool) → (i == j) ≡ t → place_of xs n b ≡ Some j
    by_same true eq = is ∙ ap Some (eqb-true i j eq)
    by_same false eq =
        let low = at.0 in
        absurd (items_apart xs i j apart (omega arith) (omega arith) (eqb-false i j eq) (at.1 ∙ sym same))

-- nor is a number found that isn't there
pub place_not : (xs : List ℕ) (n b : ℕ) → n ≤ length xs → has xs b ≡ false → place_of xs n b ≡ None
place_not xs n b few none = go (place_of xs n b) refl where
  go : (o : Option ℕ) → place_of xs n b ≡ o → place_of xs n b ≡ None
  go None is = is
  go (Some j) is =
      let at = place_is xs n b j is in
      let lt = at.0 in
      let there : has xs b ≡ true = ap (has xs) (sym at.1) ∙ has_item xs j (omega arith) in absurd (cc)

-- ---- one number less

abbrev pub less : List ℕ → ℕ → List ℕ
less xs b = without (b ∷ []) xs

less_here : (x b : ℕ) (xs : List ℕ) → (x ≡ b) → less (x ∷ xs) b ≡ less xs b
less_here x b xs same = let t : (b == x) ≡ true = grind (arith, nat_tests) in rw t refl

less_away : (x b : ℕ) (xs : List ℕ) → (x ≡ b → ⊥) → less (x ∷ xs) b ≡ x ∷ less xs b
less_away x b xs other = go (b == x) refl where
  go : (t : Bool) → (b == x) ≡ t → less (x ∷ xs) b ≡ x ∷ less xs b
  go true is = absurd (other (sym (eqb-true b x is)))
  go false is = rw is refl

pub less_none : (xs : List ℕ) (b : ℕ) → has xs b ≡ false → less xs b ≡ xs
less_none [] b none = refl
less_none (x ∷ xs) b none = go (x == b) refl (less_none xs b) none where
  go : (t : Bool) → (x == b) ≡ t → (has xs b ≡ false → less xs b ≡ xs) → (t || has xs b) ≡ false
      → less (x ∷ xs) b ≡ x ∷ xs
  go true is later none = absurd (cc)
  go false is later none = less_away x b xs (eqb-false x b is) ∙ ap (λ (ys : List ℕ). x ∷ ys) (later none)

-- the places before it stay
pub item_before : (xs : List ℕ) (b j : ℕ) → j < length xs → ((i : ℕ) → i ≤ j → item xs i ≡ b → ⊥)
    → item (less xs b) j ≡ item xs j
item_before [] b j lt none = absurd (omega arith)
item_before (x ∷ xs) b zero lt none =
    ap (λ (ys : List ℕ). item ys 0) (less_away x b xs (none 0 (omega arith)))
item_before (x ∷ xs) b (suc j) lt none =
    ap (λ (ys : List ℕ). item ys (suc j)) (less_away x b xs (none 0 (omega arith)))
    ∙ item_before xs b j (omega arith) (λ i le same. none (suc i) (omega arith) same)

-- those behind it are lower by one
pub item_behind : (xs : List ℕ) (b p k : ℕ) → AreApart xs → item xs p ≡ b → p ≤ k → suc k < length xs
    → item (less xs b) k ≡ item xs (suc k)
item_behind [] b p k apart at le lt = absurd (omega arith)
item_behind (x ∷ xs) b zero k apart at le lt =
    let none : has xs b ≡ false = ap (has xs) (sym at) ∙ apart.0 in
    ap (λ (ys : List ℕ). item ys k) (less_here x b xs at ∙ less_none xs b none)
item_behind (x ∷ xs) b (suc p) zero apart at le lt = absurd (omega arith)
item_behind (x ∷ xs) b (suc p) (suc k) apart at le lt =
    let other : (x ≡ b → ⊥) = λ same. item_once (x ∷ xs) 0 (suc p) apart (omega arith) (omega arith) (same ∙ sym at) in
    ap (λ (ys : List ℕ). item ys (suc k)) (less_away x b xs other)
    ∙ item_behind xs b p k apart.1 at (omega arith) (omega arith)

-- the first so many, without it
pub first_less : (xs : List ℕ) (n b : ℕ) → AreApart xs → n ≤ length xs
    → less (first_of xs n) b ≡ first_of (less xs b) (less_by n (place_of xs n b))
first_less xs zero b apart few = refl
first_less xs (suc n) b apart few = go (item xs n == b) refl (first_less xs n b apart (omega arith)) where
  go : (t : Bool) → (item xs n == b) ≡ t
      → less (first_of xs n) b ≡ first_of (less xs b) (less_by n (place_of xs n b))
      → less (item xs n ∷ first_of xs n) b ≡ first_of (less xs b)
      (less_by (suc n) (if t then Some n else place_of xs n b))
  go true here later =
      let own = eqb-true (item xs n) b here in
      let none : place_of xs n b ≡ None = by_place (place_of xs n b) refl own in
      let test : nat_lt n (suc n) ≡ true = grind (arith, nat_tests) in
      let back : suc n - 1 ≡ n = omega arith in
      less_here (item xs n) b (first_of xs n) own ∙ later
      ∙ (rw (none, test) (ap (first_of (less xs b)) (sym back)))
    where
      by_place : (o : Option ℕ) → place_of xs n b ≡ o → item xs n ≡ b → place_of xs n b ≡ None
      by_place None is own = is
      by_place (Some i) is own =
          let at = place_is xs n b i is in
          let lt = at.0 in
          absurd (item_once xs i n apart (omega arith) (omega arith) (at.1 ∙ sym own))
  go false away later =
      less_away (item xs n) b (first_of xs n) (eqb-false (item xs n) b away)
      ∙ by_place (place_of xs n b) refl later
    where
      by_place : (o : Option ℕ) → place_of xs n b ≡ o
          → less (first_of xs n) b ≡ first_of (less xs b) (less_by n o)
          → item xs n ∷ less (first_of xs n) b ≡ first_of (less xs b) (less_by (suc n) o)
      by_place None is later =
          let same : item (less xs b) n ≡ item xs n =
          item_before xs b n (omega arith) (λ i le at. by_last i (i == n) refl le at) in
          λ k. sym same k ∷ later k
        where
          by_last : (i : ℕ) (t : Bool) → (i == n) ≡ t → i ≤ n → item xs i ≡ b → ⊥
          by_last i true eq le at = eqb-false (item xs n) b away (ap (item xs) (sym (eqb-true i n eq)) ∙ at)
          by_last i false eq le at =
              let other = eqb-false i n eq in place_none xs n b i is (grind (arith, nat_tests)) at
      by_place (Some p) is later = by_count n refl
        where
          by_count : (m : ℕ) → n ≡ m
              → item xs n ∷ less (first_of xs n) b ≡ first_of (less xs b) (less_by (suc n) (Some p))
          by_count zero eq = (let at = place_is xs n b p is in let lt = at.0 in absurd (omega arith))
          by_count (suc m) eq =
              let at = place_is xs n b p is in
              let lt = at.0 in
              let one : nat_lt p n ≡ true = lt-ltb p n lt in
              let two : nat_lt p (suc n) ≡ true = lt-ltb p (suc n) (omega arith) in
              let front : less (first_of xs n) b ≡ first_of (less xs b) (n - 1) = rw one at later in
              let back : n - 1 ≡ m = omega arith in
              let whole : suc n - 1 ≡ n = omega arith in
              let same : item (less xs b) m ≡ item xs (suc m) =
              item_behind xs b p m apart at.1 (omega arith) (omega arith) in
              rw two (
              (λ k. item xs (eq k) ∷ front k)
              ∙ (λ k. sym same k ∷ first_of (less xs b) (back k))
              ∙ ap (first_of (less xs b)) (sym eq ∙ sym whole))

-- ---- several numbers less

-- the last that is left out may be left out of what the others leave
pub without_more : (b : ℕ) (ys xs : List ℕ) → without (b ∷ ys) xs ≡ less (without ys xs) b
without_more b ys [] = refl
without_more b ys (x ∷ xs) = go (b == x) refl (has ys x) refl (without_more b ys xs) where
  go : (t : Bool) → (b == x) ≡ t → (u : Bool) → has ys x ≡ u → without (b ∷ ys) xs ≡ less (without ys xs) b
      → without (b ∷ ys) (x ∷ xs) ≡ less (without ys (x ∷ xs)) b
  go true is true gone later = rw (is, gone) later
  go true is false stays later = rw (is, stays) (rw is later)
  go false is true gone later = rw (is, gone) later
  go false is false stays later = rw (is, stays) (rw is (ap (λ (zs : List ℕ). x ∷ zs) later))

pub apart_left : (ys xs : List ℕ) → AreApart xs → AreApart (without ys xs)
apart_left ys [] apart = tt
apart_left ys (x ∷ xs) apart = go (has ys x) refl (apart_left ys xs apart.1) where
  go : (t : Bool) → has ys x ≡ t → AreApart (without ys xs) → AreApart (without ys (x ∷ xs))
  go true is later = rw is later
  go false is later = rw is (none_left ys xs x apart.0, later)

-- each that is left is none of those
pub left_is : (ys xs : List ℕ) → AllByRecursion (λ (x : ℕ). has ys x ≡ false) (without ys xs)
left_is ys [] = tt
left_is ys (x ∷ xs) = go (has ys x) refl (left_is ys xs) where
  go : (t : Bool) → has ys x ≡ t → AllByRecursion (λ (x : ℕ). has ys x ≡ false) (without ys xs)
      → AllByRecursion (λ (x : ℕ). has ys x ≡ false) (without ys (x ∷ xs))
  go true is later = rw is later
  go false is later = rw is (is, later)

length_less : (xs : List ℕ) (b : ℕ) → AreApart xs → length xs ≤ length (less xs b) + 1
length_less [] b apart = omega arith
length_less (x ∷ xs) b apart = go (x == b) refl (length_less xs b apart.1) where
  go : (t : Bool) → (x == b) ≡ t → length xs ≤ length (less xs b) + 1 → length (x ∷ xs) ≤ length (less (x ∷ xs) b) + 1
  go true is later =
      let own = eqb-true x b is in
      let none : has xs b ≡ false = ap (has xs) (sym own) ∙ apart.0 in
      let same = ap (λ (ys : List ℕ). length ys) (less_here x b xs own ∙ less_none xs b none) in
      omega arith
  go false is later =
      let same = ap (λ (ys : List ℕ). length ys) (less_away x b xs (eqb-false x b is)) in
      omega arith

pub length_left : (ys xs : List ℕ) → AreApart xs → length xs ≤ length (without ys xs) + length ys
length_left [] xs apart = let same = ap (λ (zs : List ℕ). length zs) (without_none xs) in omega arith
length_left (y ∷ ys) xs apart =
    let same = ap (λ (zs : List ℕ). length zs) (without_more y ys xs) in
    let later = length_left ys xs apart in
    let one = length_less (without ys xs) y (apart_left ys xs apart) in
    omega arith

-- ---- the order of a segment

pub length_from : (c : Config) (s p n : ℕ) → length (backups_from c s p n) ≡ n
length_from c s p zero = refl
length_from c s p (suc n) = ap suc (length_from c s (suc p) n)

from_below : (c : Config) (s p n : ℕ) → 0 < c.backups → AllByRecursion (λ (b : ℕ). b < c.backups) (backups_from c s p n)
from_below c s p zero some = tt
from_below c s p (suc n) some = (mod_below (s * c.step + p) c.backups some, from_below c s (suc p) n some)

from_not : (c : Config) (s p q n : ℕ) → p < q → q + n ≤ p + c.backups
    → has (backups_from c s q n) (backup_at c s p) ≡ false
from_not c s p q zero lt few = refl
from_not c s p q (suc n) lt few = go (backup_at c s q == backup_at c s p) refl
    (from_not c s p (suc q) n (omega arith) (omega arith)) where
      go : (t : Bool) → (backup_at c s q == backup_at c s p) ≡ t
          → has (backups_from c s (suc q) n) (backup_at c s p) ≡ false
          → (t || has (backups_from c s (suc q) n) (backup_at c s p)) ≡ false
      go true is later =
          absurd (rests_differ c.backups (s * c.step + p) (s * c.step + q) (omega arith) (omega arith) (omega arith)
          (sym (eqb-true (backup_at c s q) (backup_at c s p) is)))
      go false is later = later

from_apart : (c : Config) (s p n : ℕ) → n ≤ c.backups → AreApart (backups_from c s p n)
from_apart c s p zero few = tt
from_apart c s p (suc n) few =
    (from_not c s p (suc p) n (omega arith) (omega arith), from_apart c s (suc p) n (omega arith))

-- the backups that haven't failed, each once
pub working_apart : (c : Config) (failed : List ℕ) (s : ℕ) → AreApart (working c failed s)
working_apart c failed s = apart_left failed (backups_from c s 0 c.backups) (from_apart c s 0 c.backups (omega arith))

pub working_below : (c : Config) (failed : List ℕ) (s : ℕ) → 0 < c.backups
    → AllByRecursion (λ (b : ℕ). b < c.backups) (working c failed s)
working_below c failed s some =
    all_left (λ (b : ℕ). b < c.backups) failed (backups_from c s 0 c.backups) (from_below c s 0 c.backups some)

-- as many as replicas, if there are so many more than failed
pub working_many : (c : Config) (failed : List ℕ) (s n : ℕ) → length failed + n ≤ c.backups
    → n ≤ length (working c failed s)
working_many c failed s n few =
    let all = length_from c s 0 c.backups in
    let left = length_left failed (backups_from c s 0 c.backups) (from_apart c s 0 c.backups (omega arith)) in
    omega arith

few_left : (ys xs : List ℕ) → length (without ys xs) ≤ length xs
few_left ys [] = omega arith
few_left ys (x ∷ xs) = go (has ys x) refl (few_left ys xs) where
  go : (t : Bool) → has ys x ≡ t → length (without ys xs) ≤ length xs
      → length (without ys (x ∷ xs)) ≤ length (x ∷ xs)
  go true is later = rw is (omega arith)
  go false is later = rw is (omega arith)

pub working_few : (c : Config) (failed : List ℕ) (s : ℕ) → length (working c failed s) ≤ c.backups
working_few c failed s =
    let all = length_from c s 0 c.backups in
    let left = few_left failed (backups_from c s 0 c.backups) in
    omega arith

at_from : (c : Config) (s p n j : ℕ) → j < n → item (backups_from c s p n) j ≡ backup_at c s (p + j)
at_from c s p zero j lt = absurd (omega arith)
at_from c s p (suc n) zero lt = let same : p ≡ p + 0 = omega arith in ap (backup_at c s) same
at_from c s p (suc n) (suc j) lt =
    let same : suc p + j ≡ p + suc j = omega arith in
    at_from c s (suc p) n j (omega arith) ∙ ap (backup_at c s) same

-- the home of a replica if none failed
pub home_first : (c : Config) (s j : ℕ) → j < length (working c [] s) → home c [] s j ≡ backup_at c s j
home_first c s j lt =
    let few = working_few c [] s in
    let same : 0 + j ≡ j = omega arith in
    ap (λ (bs : List ℕ). item bs j) (without_none (backups_from c s 0 c.backups))
    ∙ at_from c s 0 c.backups j (omega arith) ∙ ap (backup_at c s) same

-- what is left of an order from a place on
abbrev pub order_from : Config → List ℕ → ℕ → ℕ → List ℕ
order_from c failed s p = without failed (backups_from c s p (c.backups - p))

pub order_on : (c : Config) (failed : List ℕ) (s p : ℕ) → p < c.backups
    → order_from c failed s p ≡ (if has failed (backup_at c s p) then order_from c failed s (p + 1)
    else backup_at c s p ∷ order_from c failed s (p + 1))
order_on c failed s p lt =
    let left : c.backups - p ≡ suc (c.backups - (p + 1)) = omega arith in
    let next : suc p ≡ p + 1 = omega arith in
    ap (λ (n : ℕ). without failed (backups_from c s p n)) left
    ∙ (λ i. if has failed (backup_at c s p) then without failed (backups_from c s (next i) (c.backups - (p + 1)))
    else backup_at c s p ∷ without failed (backups_from c s (next i) (c.backups - (p + 1))))

module _ (c : Config) (failed : List ℕ) (s p : ℕ) (lt : p < c.backups) (is : Bool)
    (tested : has failed (backup_at c s p) ≡ is) where
  pub order_gone : is ≡ true → order_from c failed s p ≡ order_from c failed s (p + 1)
  order_gone gone =
      let on = order_on c failed s p lt in
      let test : has failed (backup_at c s p) ≡ true = tested ∙ gone in
      rw test at on

  pub order_stays : is ≡ false → order_from c failed s p ≡ backup_at c s p ∷ order_from c failed s (p + 1)
  order_stays stays =
      let on = order_on c failed s p lt in
      let test : has failed (backup_at c s p) ≡ false = tested ∙ stays in
      rw test at on

-- one more failed
pub working_less : (c : Config) (failed : List ℕ) (s b : ℕ) → working c (b ∷ failed) s ≡ less (working c failed s) b
working_less c failed s b = without_more b failed (backups_from c s 0 c.backups)

-- ---- homes

module _ (c : Config) (failed : List ℕ) (s : ℕ) where
  pub homes_apart : (i j : ℕ) → i < length (working c failed s) → j < length (working c failed s) → (i ≡ j → ⊥)
      → home c failed s i ≡ home c failed s j → ⊥
  homes_apart i j a b other same =
      items_apart (working c failed s) i j (working_apart c failed s) a b other same

  pub home_below : (j : ℕ) → 0 < c.backups → j < length (working c failed s) → home c failed s j < c.backups
  home_below j some lt =
      item_all (λ (b : ℕ). b < c.backups) (working c failed s) j (working_below c failed s some) lt

  -- a home hasn't failed
  pub home_works : (j : ℕ) → j < length (working c failed s) → has failed (home c failed s j) ≡ false
  home_works j lt =
      item_all (λ (b : ℕ). has failed b ≡ false) (working c failed s) j
      (left_is failed (backups_from c s 0 c.backups)) lt

  pub placed_is : (n : ℕ) → placed c failed s n ≡ first_of (working c failed s) n
  placed_is zero = refl
  placed_is (suc j) = ap (λ (bs : List ℕ). home c failed s j ∷ bs) (placed_is j)

  pub place_in_is : (n b : ℕ) → place_in c failed s n b ≡ place_of (working c failed s) n b
  place_in_is zero b = refl
  place_in_is (suc j) b =
      ap (λ (o : Option ℕ). if home c failed s j == b then Some j else o) (place_in_is j b)

  pub place_in_some : (n b j : ℕ) → place_in c failed s n b ≡ Some j → (j < n) × (home c failed s j ≡ b)
  place_in_some n b j is = place_is (working c failed s) n b j (sym (place_in_is n b) ∙ is)

  pub place_in_none : (n b j : ℕ) → place_in c failed s n b ≡ None → j < n → home c failed s j ≡ b → ⊥
  place_in_none n b j is = place_none (working c failed s) n b j (sym (place_in_is n b) ∙ is)

  -- if neither this replica nor one before it is on the backup, none up to it is
  pub none_up_to : (j b : ℕ) → (home c failed s j == b) ≡ false → place_in c failed s j b ≡ None
      → place_in c failed s (suc j) b ≡ None
  none_up_to j b other none = rw other none

  pub place_in_at : (n b j : ℕ) → n ≤ length (working c failed s) → j < n → home c failed s j ≡ b
      → place_in c failed s n b ≡ Some j
  place_in_at n b j few lt same =
      place_in_is n b ∙ place_at (working c failed s) n b j (working_apart c failed s) few lt same

  -- what is left of the first homes, if a backup fails: the ones behind it are lower by one
  pub placed_without : (n b : ℕ) → n ≤ length (working c failed s)
      → without (b ∷ []) (placed c failed s n) ≡ placed c (b ∷ failed) s (less_by n (place_in c failed s n b))
  placed_without n b few =
      ap (without (b ∷ [])) (placed_is n)
      ∙ first_less (working c failed s) n b (working_apart c failed s) few
      ∙ (λ i. first_of (sym (working_less c failed s b) i) (less_by n (sym (place_in_is n b) i)))
      ∙ sym (again (less_by n (place_in c failed s n b)))
    where
      again : (m : ℕ) → placed c (b ∷ failed) s m ≡ first_of (working c (b ∷ failed) s) m
      again zero = refl
      again (suc j) = ap (λ (bs : List ℕ). home c (b ∷ failed) s j ∷ bs) (again j)

  -- a home before the lost one stays, and one behind it is then the home of the replica before
  pub home_before : (b j : ℕ) → j < length (working c failed s) → ((i : ℕ) → i ≤ j → home c failed s i ≡ b → ⊥)
      → home c (b ∷ failed) s j ≡ home c failed s j
  home_before b j lt none =
      ap (λ (bs : List ℕ). item bs j) (working_less c failed s b) ∙ item_before (working c failed s) b j lt none

  pub home_behind : (b p k : ℕ) → home c failed s p ≡ b → p ≤ k → suc k < length (working c failed s)
      → home c (b ∷ failed) s k ≡ home c failed s (suc k)
  home_behind b p k at le lt =
      ap (λ (bs : List ℕ). item bs k) (working_less c failed s b)
      ∙ item_behind (working c failed s) b p k (working_apart c failed s) at le lt

-- with as many backups left as replicas
pub homes_left : (c : Config) (failed : List ℕ) (s j : ℕ) → config_fault c ≡ None
    → length failed + c.replicas ≤ c.backups → j < c.replicas → home c failed s j < c.backups
homes_left c failed s j ok few lt =
    let homes = has_homes c ok in
    let some = homes.some in
    let enough = working_many c failed s c.replicas few in
    home_below c failed s j (omega arith) (omega arith)
