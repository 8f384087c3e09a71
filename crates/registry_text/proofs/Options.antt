-- The options of a store, one after the other.
use Rattle.std.proofs.Common.{◌≡◌, ℕ, suc, ◌+◌, ◌*◌, ◌-◌, ◌^◌, ◌<◌, List, [], ◌∷◌, ◌++◌, length}
use Rattle.std.proofs.Common.{refl, sym, ◌∙◌, ap, append_assoc, length-append, arith}
use Rattle.std.specs.List.{flat_map}
use Rattle.std.specs.Prelude.{slice_index}
use Rattle.entry.specs.Format.{ids_at, number_at, number_bytes}
use Rattle.entry.proofs.Numbers.{length-number_bytes, number_at-front, number_at-past}

-- the next one, and those after it
pub options-step : (count i : ℕ) (bytes : List ℕ) → i < count
    → ids_at (count - i) (10 + 8 * i) bytes
    ≡ number_at 8 (10 + 8 * i) bytes ∷ ids_at (count - (i + 1)) (10 + 8 * (i + 1)) bytes
options-step count i bytes lt =
    let more : count - i ≡ suc (count - (i + 1)) = omega arith in
    let at : 10 + 8 * i + 8 ≡ 10 + 8 * (i + 1) = omega arith in
    rw (more, at) refl

-- one option more was read
pub options-more : (options more : List ℕ) (count i : ℕ) (bytes whole : List ℕ) → i < count
    → options ++ ids_at (count - i) (10 + 8 * i) bytes ≡ whole
    → more ≡ options ++ number_at 8 (10 + 8 * i) bytes ∷ []
    → more ++ ids_at (count - (i + 1)) (10 + 8 * (i + 1)) bytes ≡ whole
options-more options more count i bytes whole lt so_far is =
    let rest = ids_at (count - (i + 1)) (10 + 8 * (i + 1)) bytes in
    ap (λ (l : List ℕ). l ++ rest) is
    ∙ append_assoc options (number_at 8 (10 + 8 * i) bytes ∷ []) rest
    ∙ ap (λ (l : List ℕ). options ++ l) (sym (options-step count i bytes lt))
    ∙ so_far

-- what was written is read there
pub options-back : (front options : List ℕ) (at : ℕ) → length front ≡ at
    → ((i : ℕ) → slice_index options i < 2 ^ 64)
    → ids_at (length options) at (front ++ flat_map (number_bytes 8) options) ≡ options
options-back front [] at len fits = refl
options-back front (x ∷ xs) at len fits =
    let rest = flat_map (number_bytes 8) xs in
    let one = number_bytes 8 x in
    let here : number_at 8 at (front ++ (one ++ rest)) ≡ x =
    ap (λ (n : ℕ). number_at 8 n (front ++ (one ++ rest))) (let e : at ≡ length front + 0 = omega (arith, len) in e)
    ∙ number_at-past 8 0 front (one ++ rest)
    ∙ number_at-front 8 x rest (fits 0) in
    let after : length (front ++ one) ≡ at + 8 =
    omega (arith, length-append front one, length-number_bytes 8 x, len) in
    let next = options-back (front ++ one) xs (at + 8) after (λ i. fits (suc i)) in
    let behind : ids_at (length xs) (at + 8) (front ++ (one ++ rest)) ≡ xs =
    ap (λ (l : List ℕ). ids_at (length xs) (at + 8) l) (sym (append_assoc front one rest)) ∙ next in
    (λ i. here i ∷ behind i)

pub length-options : (options : List ℕ) → length (flat_map (number_bytes 8) options) ≡ 8 * length options
length-options [] = refl
length-options (x ∷ xs) =
    let rest = flat_map (number_bytes 8) xs in
    omega (arith, length-append (number_bytes 8 x) rest, length-number_bytes 8 x, length-options xs)
