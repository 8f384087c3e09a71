-- The order of places.
use Rattle.std.proofs.Common.{◌≡◌, ℕ, ◌-◌, ◌<◌, true, false, arith}
use Rattle.std.specs.Prelude.{nat_le, ◌==◌, ◌&&◌}
use Rattle.std.proofs.lemmas.Bool.Decides.{nat_tests}
use Rattle.tablet_will.specs.Order.{is_below, is_up_to, is_within}

pub not_up : (a b c d : ℕ) → is_up_to a b c d ≡ false → is_below c d a b ≡ true
not_up a b c d e = grind (arith, nat_tests)

pub below_not_up : (a b c d : ℕ) → is_below a b c d ≡ true → is_up_to c d a b ≡ false
below_not_up a b c d e = grind (arith, nat_tests)

pub below_up : (a b c d : ℕ) → is_below a b c d ≡ true → is_up_to a b c d ≡ true
below_up a b c d e = grind (arith, nat_tests)

pub up_same : (a b : ℕ) → is_up_to a b a b ≡ true
up_same a b = grind (arith, nat_tests)

pub below_below : (a b c d x y : ℕ) → is_below a b c d ≡ true → is_below c d x y ≡ true → is_below a b x y ≡ true
below_below a b c d x y e f = grind (arith, nat_tests)

pub up_below : (a b c d x y : ℕ) → is_up_to a b c d ≡ true → is_below c d x y ≡ true → is_below a b x y ≡ true
up_below a b c d x y e f = grind (arith, nat_tests)

pub below_upto : (a b c d x y : ℕ) → is_below a b c d ≡ true → is_up_to c d x y ≡ true → is_below a b x y ≡ true
below_upto a b c d x y e f = grind (arith, nat_tests)

pub up_up : (a b c d x y : ℕ) → is_up_to a b c d ≡ true → is_up_to c d x y ≡ true → is_up_to a b x y ≡ true
up_up a b c d x y e f = grind (arith, nat_tests)

pub up_differs : (a b c d : ℕ) → is_up_to a b c d ≡ true → ((a == c) && (b == d)) ≡ false → is_below a b c d ≡ true
up_differs a b c d e f = grind (arith, nat_tests)

-- within a range
pub begin_within : (t f l : ℕ) → nat_le f l ≡ true → is_within t f l t f ≡ true
begin_within t f l e = grind (arith, nat_tests)

pub within_first : (t f l a b : ℕ) → is_within t f l a b ≡ true → is_up_to t f a b ≡ true
within_first t f l a b e = grind (arith, nat_tests)

pub within_last : (t f l a b : ℕ) → is_within t f l a b ≡ true → is_up_to a b t l ≡ true
within_last t f l a b e = grind (arith, nat_tests)

pub within_from : (t f l a b : ℕ) → is_up_to t f a b ≡ true → is_up_to a b t l ≡ true → is_within t f l a b ≡ true
within_from t f l a b e g = grind (arith, nat_tests)

pub above_not_within : (t f l a b : ℕ) → is_below t l a b ≡ true → is_within t f l a b ≡ false
above_not_within t f l a b e = grind (arith, nat_tests)

pub below_not_within : (t f l a b : ℕ) → is_below a b t f ≡ true → is_within t f l a b ≡ false
below_not_within t f l a b e = grind (arith, nat_tests)

-- what isn't passed by a range and isn't in it comes before it
pub not_passed : (t f l a b : ℕ) → is_below t l a b ≡ false → is_within t f l a b ≡ false → is_below a b t f ≡ true
not_passed t f l a b e g = grind (arith, nat_tests)

pub up_to_last : (t f l : ℕ) → nat_le f l ≡ true → is_up_to t f t l ≡ true
up_to_last t f l e = grind (arith, nat_tests)

-- ---- a range that is cut at a place (s, p) of it

module _ (t f l s p : ℕ) (later : is_up_to s p t f ≡ false) (inside : is_within t f l s p ≡ true) where
  pub cut_some : (f < p) × (s ≡ t)
  cut_some = (grind (arith, nat_tests), grind (arith, nat_tests))

  pub cut_first : nat_le f (p - 1) ≡ true
  cut_first = grind (arith, nat_tests)

  pub cut_before : is_below t (p - 1) t p ≡ true
  cut_before = grind (arith, nat_tests)

  pub cut_last : nat_le p l ≡ true
  cut_last = grind (arith, nat_tests)

  -- a place of the range lies on one side
  pub cut_left : (a b : ℕ) → is_within t f l a b ≡ true → is_up_to s p a b ≡ false → is_within t f (p - 1) a b ≡ true
  cut_left a b e g = grind (arith, nat_tests)

  pub cut_right : (a b : ℕ) → is_within t f l a b ≡ true → is_up_to s p a b ≡ true
      → (is_within t f (p - 1) a b ≡ false) × (is_within t p l a b ≡ true)
  cut_right a b e g = (grind (arith, nat_tests), grind (arith, nat_tests))

  -- another place lies on none
  pub cut_out : (a b : ℕ) → is_within t f l a b ≡ false
      → (is_within t f (p - 1) a b ≡ false) × (is_within t p l a b ≡ false)
  cut_out a b e = (grind (arith, nat_tests), grind (arith, nat_tests))

-- a place past a range, which is neither at its begin or before it, nor in it
pub past_last : (t f l s p : ℕ) → is_up_to s p t f ≡ false → is_within t f l s p ≡ false → is_below t l s p ≡ true
past_last t f l s p e g = grind (arith, nat_tests)
