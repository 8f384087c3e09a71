-- The greatest number below a bound that passes a test, and a test of several backups.
use Rattle.std.proofs.Common.{◌≡◌, ℕ, zero, suc, ◌<◌, ◌≤◌, inl, inr, Bool, true, false, refl, sym, ap, ◌∙◌, arith}
use Rattle.std.specs.Prelude.{◌||◌}
use Rattle.std.proofs.lemmas.Bool.{cases_eq}
use Rattle.log_laws.proofs.Lists.{both_ways}

-- whether a number below the bound passes
abbrev pub any_below : (ℕ → Bool) → ℕ → Bool
any_below test zero = false
any_below test (suc n) = test n || any_below test n

pub any_found : (test : ℕ → Bool) (n : ℕ) → any_below test n ≡ true → (k : ℕ) × (k < n) × (test k ≡ true)
any_found test zero is = absurd (cc)
any_found test (suc n) is = go (test n) refl (λ more. any_found test n more) is where
  go : (t : Bool) → test n ≡ t → (any_below test n ≡ true → (k : ℕ) × (k < n) × (test k ≡ true))
      → (t || any_below test n) ≡ true → (k : ℕ) × (k < suc n) × (test k ≡ true)
  go true passes more is = (n, omega arith, passes)
  go false fails more is = let there = more is in (there.0, (let lt = there.1 in omega arith), there.2)

pub any_there : (test : ℕ → Bool) (n k : ℕ) → k < n → test k ≡ true → any_below test n ≡ true
any_there test zero k lt passes = absurd (omega arith)
any_there test (suc n) k lt passes = go (test n) refl (λ less. any_there test n k less passes) where
  go : (t : Bool) → test n ≡ t → (k < n → any_below test n ≡ true) → (t || any_below test n) ≡ true
  go true is later = refl
  go false is later = elim (cases_eq k n) as (λ _. any_below test n ≡ true) [
    | inl same ↦ absurd (both_ways (test n) (ap test (sym same) ∙ passes) is)
    | inr other ↦ later (omega arith)
  ]

-- the greatest number below the bound that passes
pub record Greatest (test : ℕ → Bool) (n : ℕ) : Type 0 where
  pub k : ℕ
  pub passes : test k ≡ true
  pub greatest : (j : ℕ) → j < n → test j ≡ true → j ≤ k

pub greatest_below : (test : ℕ → Bool) (n k : ℕ) → k < n → test k ≡ true → Greatest test n
greatest_below test zero k lt passes = absurd (omega arith)
greatest_below test (suc n) k lt passes = go (test n) refl (λ less. greatest_below test n k less passes) where
  below : Greatest test n → test n ≡ false → Greatest test (suc n)
  below g fails = record {
    k = g.k;
    passes = g.passes;
    greatest = λ j less is. elim (cases_eq j n) as (λ _. j ≤ g.k) [
      | inl same ↦ absurd (both_ways (test n) (ap test (sym same) ∙ is) fails)
      | inr other ↦ g.greatest j (omega arith) is
    ];
  }

  go : (t : Bool) → test n ≡ t → (k < n → Greatest test n) → Greatest test (suc n)
  go true is later = record { k = n; passes = is; greatest = λ j less _. omega arith }
  go false is later = elim (cases_eq k n) as (λ _. Greatest test (suc n)) [
    | inl same ↦ absurd (both_ways (test n) (ap test (sym same) ∙ passes) is)
    | inr other ↦ below (later (omega arith)) is
  ]
