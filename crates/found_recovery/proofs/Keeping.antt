-- The numbers of the backups that were found, as a list.
use Rattle.std.proofs.Common.{◌≡◌, ℕ, zero, suc, ◌+◌, ◌<◌, ◌==◌, Bool, true, false, List, [], ◌∷◌, Option, None, Some}
use Rattle.std.proofs.Common.{refl, subst, arith}
use Rattle.std.proofs.lemmas.Bool.Decides.{nat_tests}
use mathlib.Core.Path.{fun_ext}
use Rattle.file_fleet.specs.declared.member.Member.{Member}
use Rattle.fleet_start.specs.Found.{is_found}
use Rattle.recovery.specs.Kept.{is_kept}

-- those of these places, if the first has this number
abbrev pub numbers_from : {D : Type 0} → ℕ → List (Option (Member D)) → List ℕ
numbers_from i [] = []
numbers_from i (None ∷ places) = numbers_from (suc i) places
numbers_from i (Some h ∷ places) = i ∷ numbers_from (suc i) places

differs : (i n : ℕ) → n < i → (i == n) ≡ false
differs i n less = grind (arith, nat_tests)

differs_later : (i b : ℕ) → (i == (i + suc b)) ≡ false
differs_later i b = grind (arith, nat_tests)

same_first : (i : ℕ) → (i == (i + zero)) ≡ true
same_first i = grind (arith, nat_tests)

none_below : {D : Type 0} (i n : ℕ) (places : List (Option (Member D))) → n < i
    → is_kept (numbers_from i places) n ≡ false
none_below i n [] less = refl
none_below i n (None ∷ places) less = none_below (suc i) n places (omega (arith, less))
none_below i n (Some h ∷ places) less = rw (differs i n less) (none_below (suc i) n places (omega (arith, less)))

found_from : {D : Type 0} (i b : ℕ) (places : List (Option (Member D)))
    → is_kept (numbers_from i places) (i + b) ≡ is_found places b
found_from i b [] = refl
found_from i zero (None ∷ places) = none_below (suc i) (i + zero) places (omega arith)
found_from i zero (Some h ∷ places) = rw (same_first i) refl
found_from {D} i (suc b) (None ∷ places) =
    let later : suc i + b ≡ i + suc b = omega arith in
    subst (λ (n : ℕ). is_kept (numbers_from (suc i) places) n ≡ is_found places b) later
    (found_from (suc i) b places)
found_from {D} i (suc b) (Some h ∷ places) =
    let later : suc i + b ≡ i + suc b = omega arith in
    rw (differs_later i b) (subst (λ (n : ℕ). is_kept (numbers_from (suc i) places) n ≡ is_found places b) later
    (found_from (suc i) b places))

found_here : {D : Type 0} (b : ℕ) (places : List (Option (Member D)))
    → is_kept (numbers_from 0 places) b ≡ is_found places b
found_here b places =
    let none : 0 + b ≡ b = omega arith in
    subst (λ (n : ℕ). is_kept (numbers_from 0 places) n ≡ is_found places b) none (found_from 0 b places)

-- to keep the backups on this list is to keep those that were found
pub keeps_found : {D : Type 0} (places : List (Option (Member D))) → is_kept (numbers_from 0 places) ≡ is_found places
keeps_found places = fun_ext (λ b. found_here b places)
