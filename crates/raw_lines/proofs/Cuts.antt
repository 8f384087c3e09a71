-- A text is cut in one way alone.
use Rattle.std.proofs.Common.{◌≡◌, ◌≢◌, ◌⊎◌, ◌∙◌, ◌+◌, ◌%◌, ◌<◌, ◌≤◌, ◌^◌, ◌++◌, ◌∷◌, [], ap, sym, refl, subst, ℕ, suc}
use Rattle.std.proofs.Common.{List}
use Rattle.std.proofs.Common.{length, take, drop, ◌-◌, length-append, append_assoc, append-nil, arith, inl, inr}
use Rattle.std.specs.List.{All}
use Rattle.std.specs.Fmt.{decimal}
use Rattle.std.proofs.lemmas.List.Elements.{All-push, All-nil, All-cons}
use Rattle.std.proofs.lemmas.Fmt.{decimal_by_steps, decimal_injective}
use Rattle.std.proofs.lemmas.List.{take-append-drop, take_rest}
use Rattle.lines.specs.Keys.{IsKey}
use Rattle.raw_lines.specs.Raw.{counted}
use Rattle.raw_lines.specs.Cutting.{HasNoBytes, HasNoKeyFront, HasNoNumber}

abbrev head : List ℕ → ℕ
head [] = 0
head (b ∷ bs) = b

-- what stands before the first byte of a value, and behind it
pub first_cut : (e : ℕ) (xs ys us vs : List ℕ) → All (λ b. b ≢ e) xs → All (λ b. b ≢ e) us
    → xs ++ e ∷ ys ≡ us ++ e ∷ vs → (xs ≡ us) × (ys ≡ vs)
first_cut e [] ys [] vs before after is = (refl, ap (λ l. drop 1 l) is)
first_cut e [] ys (u ∷ us) vs before after is = absurd (after 0 0 (omega arith) (sym (ap head is)))
first_cut e (x ∷ xs) ys [] vs before after is = absurd (before 0 0 (omega arith) (ap head is))
first_cut e (x ∷ xs) ys (u ∷ us) vs before after is =
    let rest = first_cut e xs ys us vs (λ k d below. before (suc k) d (omega arith))
    (λ k d below. after (suc k) d (omega arith)) (ap (λ l. drop 1 l) is) in
    let first : x ≡ u = ap head is in
    (λ i. first i ∷ rest.0 i, rest.1)

-- no byte of the value stands before what has none of it
pub none_cut : (e : ℕ) (text xs ys : List ℕ) → All (λ b. b ≢ e) text → text ≡ xs ++ e ∷ ys → ⊥
none_cut e [] [] ys none is = absurd (omega (arith, ap length is))
none_cut e [] (x ∷ xs) ys none is = absurd (omega (arith, ap length is))
none_cut e (b ∷ bs) [] ys none is = none 0 0 (omega arith) (ap head is)
none_cut e (b ∷ bs) (x ∷ xs) ys none is =
    none_cut e bs xs ys (λ k d below. none (suc k) d (omega arith)) (ap (λ l. drop 1 l) is)

-- two lists of one length in front
pub same_cut : (cs ds xs ys : List ℕ) → length cs ≡ length ds → cs ++ xs ≡ ds ++ ys → (cs ≡ ds) × (xs ≡ ys)
same_cut [] [] xs ys long is = (refl, is)
same_cut [] (d ∷ ds) xs ys long is = absurd (omega (arith, long))
same_cut (c ∷ cs) [] xs ys long is = absurd (omega (arith, long))
same_cut (c ∷ cs) (d ∷ ds) xs ys long is =
    let rest = same_cut cs ds xs ys (omega (arith, long)) (ap (λ l. drop 1 l) is) in
    let first : c ≡ d = ap head is in
    (λ i. first i ∷ rest.0 i, rest.1)

-- ---- numbers

abbrev IsDigit : ℕ → Type 0
IsDigit b = (48 ≤ b) × (b ≤ 57)

one_digit : (n : ℕ) → n < 10 → All IsDigit ((48 + n) ∷ [])
one_digit n small = All-cons IsDigit (48 + n) [] (omega arith, omega arith) (All-nil IsDigit)

more_digits : (n : ℕ) (digits : List ℕ) → 10 ≤ n → All IsDigit digits → All IsDigit (digits ++ (48 + n % 10) ∷ [])
more_digits n digits large all = All-push IsDigit digits (48 + n % 10) all (omega arith, omega arith)

are_digits : (n : ℕ) → n < 2 ^ 64 → All IsDigit (decimal n)
are_digits = decimal_by_steps (λ n digits. All IsDigit digits) one_digit more_digits

-- a number has neither a space nor a colon
pub no_space : (n : ℕ) → n < 2 ^ 64 → All (λ b. b ≢ 32) (decimal n)
no_space n small = λ k d below is. let digit = are_digits n small k d below in omega (arith, is, digit.0)

pub no_colon : (n : ℕ) → n < 2 ^ 64 → All (λ b. b ≢ 58) (decimal n)
no_colon n small = λ k d below is. let digit = are_digits n small k d below in omega (arith, is, digit.1)

-- a number and a space in front
pub number_cut : (m n : ℕ) (xs ys : List ℕ) → m < 2 ^ 64 → n < 2 ^ 64
    → decimal m ++ 32 ∷ xs ≡ decimal n ++ 32 ∷ ys → (m ≡ n) × (xs ≡ ys)
number_cut m n xs ys small also is =
    let cut = first_cut 32 (decimal m) xs (decimal n) ys (no_space m small) (no_space n also) is in
    (decimal_injective m n small also cut.0, cut.1)

-- ---- counted bytes

counted_front : (bytes rest : List ℕ) → counted bytes ++ rest ≡ decimal (length bytes) ++ 58 ∷ (bytes ++ rest)
counted_front bytes rest = append_assoc (decimal (length bytes)) (58 ∷ bytes) rest

pub counted_cut : (cs ds xs ys : List ℕ) → length cs < 2 ^ 64 → length ds < 2 ^ 64
    → counted cs ++ xs ≡ counted ds ++ ys → (cs ≡ ds) × (xs ≡ ys)
counted_cut cs ds xs ys small also is =
    let cut = first_cut 58 (decimal (length cs)) (cs ++ xs) (decimal (length ds)) (ds ++ ys)
    (no_colon (length cs) small) (no_colon (length ds) also)
    (sym (counted_front cs xs) ∙ is ∙ counted_front ds ys) in
    same_cut cs ds xs ys (decimal_injective (length cs) (length ds) small also cut.0) cut.1

-- ---- what isn't there

-- what stands before the byte is no number
pub no_number : (e : ℕ) (old front new : List ℕ) → old ≡ front ++ e ∷ new → All (λ b. b ≢ e) front
    → ((n : ℕ) → n < 2 ^ 64 → front ≢ decimal n) → HasNoNumber e old
no_number e old front new is clean lacks n rest small also same =
    lacks n small (first_cut e front new (decimal n) rest clean also (sym is ∙ same)).0

-- the byte isn't there
pub no_end : (e : ℕ) (old : List ℕ) → All (λ b. b ≢ e) old → HasNoNumber e old
no_end e old clean n rest small also same = none_cut e old (decimal n) rest clean same

pub no_length : (old : List ℕ) (most : ℕ) → most < 2 ^ 64 → HasNoNumber 58 old → HasNoBytes most old
no_length old most fits lacks bytes rest short is =
    let small : length bytes < 2 ^ 64 = omega (arith, short, fits) in
    lacks (length bytes) (bytes ++ rest) small (no_colon (length bytes) small) (is ∙ counted_front bytes rest)

-- the length is too great
pub too_long : (old new : List ℕ) (n most : ℕ) → n < 2 ^ 64 → most < 2 ^ 64 → old ≡ decimal n ++ 58 ∷ new
    → (n ≤ most → n ≤ length new → ⊥) → HasNoBytes most old
too_long old new n most small fits is long bytes rest short same =
    let below : length bytes < 2 ^ 64 = omega (arith, short, fits) in
    let cut = first_cut 58 (decimal n) new (decimal (length bytes)) (bytes ++ rest) (no_colon n small)
    (no_colon (length bytes) below) (sym is ∙ same ∙ counted_front bytes rest) in
    let count : n ≡ length bytes = decimal_injective n (length bytes) small below cut.0 in
    long (omega (arith, count, short)) (omega (arith, count, ap length cut.1, length-append bytes rest))

-- counted bytes were cut off
pub counted_out : (text rest : List ℕ) (n : ℕ) → text ≡ decimal n ++ 58 ∷ rest → length (take n rest) ≡ n
    → text ≡ counted (take n rest) ++ take (length rest - n) (drop n rest)
counted_out text rest n is long =
    is ∙ ap (λ l. decimal n ++ 58 ∷ l) (sym (take-append-drop n rest))
    ∙ ap (λ (k : ℕ). decimal k ++ 58 ∷ (take n rest ++ drop n rest)) (sym long)
    ∙ sym (counted_front (take n rest) (drop n rest))
    ∙ ap (λ l. counted (take n rest) ++ l) (sym (take_rest rest n))

pub no_key : (old : List ℕ) → HasNoBytes 1024 old → HasNoKeyFront old
no_key old lacks key rest is = lacks key (32 ∷ rest) is.short

short_bytes : (bytes : List ℕ) (most : ℕ) → most < 2 ^ 64 → length bytes ≤ most → length bytes < 2 ^ 64
short_bytes bytes most fits short = omega (arith, short, fits)

-- other bytes stand there, which are no key, or no space is behind them
pub no_other_key : (old mid bytes : List ℕ) → old ≡ counted bytes ++ mid → length bytes ≤ 1024
    → (0 < length bytes → (rest : List ℕ) → mid ≢ 32 ∷ rest) → HasNoKeyFront old
no_other_key old mid bytes is short lacks key rest key_is same =
    let cut = counted_cut bytes key mid (32 ∷ rest) (short_bytes bytes 1024 (omega arith) short)
    (short_bytes key 1024 (omega arith) key_is.short) (sym is ∙ same) in
    let some = key_is.some in
    lacks (omega (arith, ap length cut.0, some)) rest cut.1

pub at_end : (old mid bytes : List ℕ) → old ≡ counted bytes ++ mid → mid ≡ [] → old ≡ counted bytes
at_end old mid bytes is none = is ∙ ap (λ l. counted bytes ++ l) none ∙ append-nil (counted bytes)

pub no_last : (old : List ℕ) → HasNoBytes 1024 old → (key : List ℕ) → IsKey key → old ≢ counted key
no_last old lacks key key_is same = lacks key [] key_is.short (same ∙ sym (append-nil (counted key)))

pub no_other_last : (old mid bytes : List ℕ) → old ≡ counted bytes ++ mid → length bytes ≤ 1024
    → (0 < length bytes → mid ≢ []) → (key : List ℕ) → IsKey key → old ≢ counted key
no_other_last old mid bytes is short lacks key key_is same =
    let cut = counted_cut bytes key mid [] (short_bytes bytes 1024 (omega arith) short)
    (short_bytes key 1024 (omega arith) key_is.short) (sym is ∙ same ∙ sym (append-nil (counted key))) in
    let some = key_is.some in
    lacks (omega (arith, ap length cut.0, some)) cut.1

pub no_value : (old : List ℕ) → HasNoBytes 2097152 old → (value : List ℕ) → length value ≤ 2097152
    → old ≢ counted value
no_value old lacks value short same = lacks value [] short (same ∙ sym (append-nil (counted value)))

pub no_other_value : (old mid bytes : List ℕ) → old ≡ counted bytes ++ mid → length bytes ≤ 2097152 → mid ≢ []
    → (value : List ℕ) → length value ≤ 2097152 → old ≢ counted value
no_other_value old mid bytes is short lacks value fits same =
    lacks (counted_cut bytes value mid [] (short_bytes bytes 2097152 (omega arith) short)
    (short_bytes value 2097152 (omega arith) fits) (sym is ∙ same ∙ sym (append-nil (counted value)))).1
