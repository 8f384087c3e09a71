-- Decimal digits that are read from the left, and their numbers.
use Rattle.std.proofs.Common.{◌≡◌, ◌∙◌, ◌+◌, ◌-◌, ◌*◌, ◌^◌, ◌<◌, ◌≤◌, ◌∷◌, [], Option, Some, None, ap, sym, subst, ℕ}
use Rattle.std.proofs.Common.{zero, suc, List, length, drop, get_or, arith}
use Rattle.std.specs.Prelude.{IfSome}
use Rattle.std.specs.Fmt.{decimal}
use Rattle.std.specs.Int.{IsInRange}
use Rattle.std.specs.Str.Parse.{AllDigits, digits_value, digits_value_after}
use Rattle.std.specs.Char.{digit_value}
use Rattle.std.proofs.lemmas.List.{drop_more}
use Rattle.std.proofs.lemmas.Str.{digit_value_digit}
use Rattle.std.proofs.lemmas.Str.Parse.{digit_from_value, numerals_by_value, tells_digits}
use Rattle.std.proofs.lemmas.Fmt.{decimal_digit, decimal_is_IsNumeral, decimal-digits_value, first_decimal}

-- the digits before place i were read, and n is their number
pub record AreReadTo (ds : List ℕ) (i n : ℕ) : Type 0 where
  pub value : digits_value_after 10 n (drop i ds) ≡ digits_value 10 ds
  pub read : AllDigits 10 (drop i ds) → AllDigits 10 ds
  pub left : AllDigits 10 ds → AllDigits 10 (drop i ds)

-- the number of more digits is no smaller
grows : (n : ℕ) (ds : List ℕ) → n ≤ digits_value_after 10 n ds
grows n [] = omega arith
grows n (c ∷ cs) = omega (arith, grows (n * 10 + digit_value c) cs)

module _ (ds : List ℕ) (i n : ℕ) (below : i < length ds) (so_far : AreReadTo ds i n) where
  abbrev c : ℕ
  c = get_or ds i 0

  split : drop i ds ≡ c ∷ drop (i + 1) ds
  split = drop_more ds i 0 below

  -- a byte that isn't a digit
  pub no_digit : (IsInRange 48 57 c → ⊥) → AllDigits 10 ds → ⊥
  no_digit none all = none (digit_from_value c (subst (AllDigits 10) split (so_far.left all)).0)

  next_value : digits_value_after 10 (n * 10 + digit_value c) (drop (i + 1) ds) ≡ digits_value 10 ds
  next_value = sym (ap (digits_value_after 10 n) split) ∙ so_far.value

  -- a digit that makes the number too large
  pub too_large : IsInRange 48 57 c → 2 ^ 64 ≤ n * 10 + (c - 48) → 2 ^ 64 ≤ digits_value 10 ds
  too_large is large = omega (
    arith,
    next_value,
    digit_value_digit c is,
    grows (n * 10 + digit_value c) (drop (i + 1) ds),
  )

  -- a digit more
  pub one_more : IsInRange 48 57 c → AreReadTo ds (i + 1) (n * 10 + (c - 48))
  one_more is =
      let digit : digit_value c ≡ c - 48 = omega (arith, digit_value_digit c is) in
      record {
        value = ap (λ d. digits_value_after 10 (n * 10 + d) (drop (i + 1) ds)) (sym digit) ∙ next_value;
        read = λ rest. so_far.read (subst (AllDigits 10) (sym split) (omega (arith, digit_value_digit c is), rest));
        left = λ all. (subst (AllDigits 10) split (so_far.left all)).1;
      }

-- ---- what is written for a number

-- digits without a leading zero
pub written : (ds : List ℕ) (result : Option ℕ) → IfSome result (λ n. AllDigits 10 ds × (digits_value 10 ds ≡ n))
    → IfSome result (λ n. n < 2 ^ 64) → 0 < length ds → (get_or ds 0 0 ≡ 48 → ⊥) → IfSome result (λ n. ds ≡ decimal n)
written ds None read small some no_zero = tt
written ds (Some n) read small some no_zero =
    let fits = subst (λ k. k < 2 ^ 64) (sym read.1) small in
    sym (decimal-digits_value (numerals_by_value (AllDigits 10) tells_digits) ds read.0 some
    (λ e. absurd (no_zero e)) fits) ∙ ap decimal read.1

-- one zero alone
pub zero_alone : (ds : List ℕ) → get_or ds 0 0 ≡ 48 → length ds ≡ 1 → ds ≡ decimal 0
zero_alone [] first one = absurd (omega arith)
zero_alone (d ∷ []) first one = ap (λ b. b ∷ []) first ∙ sym (decimal_digit 0 (omega arith))
zero_alone (d ∷ e ∷ ds) first one = absurd (omega arith)

pub only_zero : (n : ℕ) (ds : List ℕ) → n < 2 ^ 64 → ds ≡ decimal n → get_or ds 0 0 ≡ 48 → length ds ≡ 1
only_zero zero ds small is first = ap length is ∙ ap length (decimal_digit 0 (omega arith))
only_zero (suc n) ds small is first =
    let same : get_or (decimal (suc n)) 0 0 ≡ 48 = ap (λ l. get_or l 0 0) (sym is) ∙ first in
    absurd (omega (arith, same, first_decimal (suc n) (omega arith) small))

-- the digits of a number that is too large are those of no number of 64 bits
pub too_large_to_write : (ds : List ℕ) (n : ℕ) → n < 2 ^ 64 → (AllDigits 10 ds → 2 ^ 64 ≤ digits_value 10 ds)
    → ds ≡ decimal n → ⊥
too_large_to_write ds n small large is =
    let numeral = decimal_is_IsNumeral n small in
    let value : digits_value 10 ds ≡ n = ap (digits_value 10) is ∙ numeral.1 in
    omega (arith, value, large (subst (AllDigits 10) (sym is) numeral.0.1))
