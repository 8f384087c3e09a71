-- Accounts, and the counts of records.
use Rattle.std.proofs.Common.{◌≡◌, ◌≢◌, ◌<◌, ◌⊎◌, inl, inr, ⊎_elim, ℕ, zero, suc, ◌+◌, ◌==◌, cond, List, [], ◌∷◌, ◌++◌}
use Rattle.std.proofs.Common.{Some, length, set, refl, ap, ◌∙◌, arith, zero-add}
use Rattle.std.specs.Prelude.{slice_get, All}
use Rattle.std.proofs.lemmas.Bool.Decides.{nat_tests}
use Rattle.std.proofs.lemmas.List.Elements.{All-append}
use Rattle.std.proofs.lemmas.List.Sums.{sum_by-append}
use Rattle.versioned_map.specs.declared.command.Record.{Record}
use Rattle.store_seat.specs.declared.account.Account.{Account}
use Rattle.std.proofs.lemmas.Option.{same_Some}
use Rattle.history.specs.Seats.{count_of}

-- ---- rows of accounts

-- what is at a place after one place was set
pub get_set : {X : Type 0} (xs : List X) (i j : ℕ) (a b : X) → slice_get (set xs i a) j ≡ Some b
    → ((j ≡ i) × (a ≡ b)) ⊎ ((j ≢ i) × (slice_get xs j ≡ Some b))
get_set [] i j a b e = absurd (cc)
get_set (x ∷ xs) zero zero a b e = inl (refl, same_Some _ _ e)
get_set (x ∷ xs) zero (suc j) a b e = inr ((λ h. omega arith), e)
get_set (x ∷ xs) (suc i) zero a b e = inr ((λ h. omega arith), e)
get_set (x ∷ xs) (suc i) (suc j) a b e =
    ⊎_elim (λ t. inl (ap suc t.0, t.1)) (λ t. let n = t.0 in inr ((λ h. n (omega arith)), t.1)) (get_set xs i j a b e)

pub in_book : (xs : List Account) (i : ℕ) (a : Account) → slice_get xs i ≡ Some a → i < length xs
in_book [] i a e = absurd (cc)
in_book (x ∷ xs) zero a e = omega arith
in_book (x ∷ xs) (suc i) a e = omega (arith, in_book xs i a e)

pub get_last : {X : Type 0} (xs : List X) (y : X) → slice_get (xs ++ y ∷ []) (length xs) ≡ Some y
get_last [] y = refl
get_last (x ∷ xs) y = get_last xs y

-- what stood before the last place stands there still
pub get_before : {X : Type 0} (xs : List X) (y : X) (i : ℕ) → i < length xs
    → slice_get (xs ++ y ∷ []) i ≡ slice_get xs i
get_before [] y i l = absurd (omega arith)
get_before (x ∷ xs) y zero l = refl
get_before (x ∷ xs) y (suc i) l = get_before xs y i (omega arith)

-- ---- counts

pub count_push : (k : ℕ) (h : List Record) (r : Record)
    → count_of k (h ++ r ∷ []) ≡ count_of k h + cond (r.seat == k) 1 0
count_push k h r = sum_by-append (λ (x : Record). cond (x.seat == k) 1 0) h (r ∷ [])
    ∙ ap (λ n. count_of k h + n) (zero-add (cond (r.seat == k) 1 0))

pub count_mine : (k : ℕ) (h : List Record) (r : Record) → r.seat ≡ k → count_of k (h ++ r ∷ []) ≡ count_of k h + 1
count_mine k h r e = let p = count_push k h r in grind (arith, nat_tests)

pub count_other : (k : ℕ) (h : List Record) (r : Record) → r.seat ≢ k → count_of k (h ++ r ∷ []) ≡ count_of k h
count_other k h r e = let p = count_push k h r in grind (arith, nat_tests)

pub all_push : (n : ℕ) (h : List Record) (r : Record) → All (λ (x : Record). x.seat < n) h → r.seat < n
    → All (λ (x : Record). x.seat < n) (h ++ r ∷ [])
all_push n h r all one = All-append (λ (x : Record). x.seat < n) h (r ∷ []) all one_only where
  one_only : All (λ (x : Record). x.seat < n) (r ∷ [])
  one_only zero d l = one
  one_only (suc k) d l = absurd (omega arith)
