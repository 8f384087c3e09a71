-- Lists element by element, and how many numbers of a list are below a bound.
use Rattle.std.proofs.Common.{◌≡◌, ℕ, zero, suc, ◌+◌, ◌<◌, ◌≤◌, Bool, true, false, List, [], ◌∷◌, length, drop}
use Rattle.std.proofs.Common.{add-one, refl}
use Rattle.std.proofs.Common.{ap, arith}
use Rattle.std.specs.Prelude.{Some, slice_get, nat_lt}
use Rattle.std.proofs.lemmas.Bool.{ltb-true, ltb-false}
use Rattle.std.proofs.lemmas.Option.{same_Some}
use Rattle.master_failover.specs.Left.{count_below}

next : (xs : List ℕ) (p x : ℕ) → slice_get xs p ≡ Some x → drop p xs ≡ x ∷ drop (suc p) xs
next [] p x is = absurd (cc)
next (y ∷ ys) zero x is = ap (λ (z : ℕ). z ∷ ys) (same_Some y x is)
next (y ∷ ys) (suc p) x is = next ys p x is

pub here : (xs : List ℕ) (p x : ℕ) → slice_get xs p ≡ Some x → drop p xs ≡ x ∷ drop (p + 1) xs
here xs p x is = rw add-one (next xs p x is)

pub all_gone : (xs : List ℕ) (n : ℕ) → length xs ≤ n → drop n xs ≡ []
all_gone [] zero le = refl
all_gone [] (suc n) le = refl
all_gone (x ∷ xs) zero le = absurd (omega arith)
all_gone (x ∷ xs) (suc n) le = all_gone xs n (omega arith)

pub below_here : (n m : ℕ) (ms : List ℕ) → m < n → count_below n (m ∷ ms) ≡ suc (count_below n ms)
below_here n m ms lt = go (nat_lt m n) refl where
  go : (t : Bool) → nat_lt m n ≡ t → count_below n (m ∷ ms) ≡ suc (count_below n ms)
  go true is = rw is refl
  go false is = absurd (let le = ltb-false m n is in omega arith)

pub not_below : (n m : ℕ) (ms : List ℕ) → n ≤ m → count_below n (m ∷ ms) ≡ count_below n ms
not_below n m ms le = go (nat_lt m n) refl where
  go : (t : Bool) → nat_lt m n ≡ t → count_below n (m ∷ ms) ≡ count_below n ms
  go true is = absurd (let lt = ltb-true m n is in omega arith)
  go false is = rw is refl

pub few_below : (n : ℕ) (ms : List ℕ) → count_below n ms ≤ length ms
few_below n [] = omega arith
few_below n (m ∷ ms) = go (nat_lt m n) refl (few_below n ms) where
  go : (t : Bool) → nat_lt m n ≡ t → count_below n ms ≤ length ms → count_below n (m ∷ ms) ≤ length (m ∷ ms)
  go true is later = rw is (omega arith)
  go false is later = rw is (omega arith)
