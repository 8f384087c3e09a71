-- Words that are numbers, and the numbers that they are.
use Rattle.std.proofs.Common.{◌≡◌, ◌∙◌, ◌^◌, ◌<◌, ◌∷◌, [], ap, sym, refl, subst, ◌↔◌, Bool, false, Option, Some, None}
use Rattle.std.proofs.Common.{ℕ, List, length, get_or, map, arith}
use Rattle.std.specs.Prelude.{IfSome, IsNone, IsSome, IsTrue, MatchOption}
use Rattle.std.specs.List.{All, slice_split}
use Rattle.std.specs.Fmt.{decimal}
use Rattle.std.specs.Str.Parse.{digits_value}
use Rattle.std.proofs.lemmas.Fmt.{decimal_is_IsNumeral}
use Rattle.std.proofs.lemmas.List.{length-map}
use Rattle.std.proofs.lemmas.List.Elements.{All-cons, All-head, All-map, All-rest, All-same, All-tail}
use Rattle.std.proofs.lemmas.List.Splits.{length-slice_split}
use Rattle.lines.specs.Cutting.{IsNumberWord, is_space}
use Rattle.lines.specs.Keys.{IsWord}
use Rattle.lines.specs.Words.{AreNumbers}
use Rattle.lines.proofs.Spelling.{decimal_is_word}

abbrev IsSmall : ℕ → Type 0
IsSmall n = n < 2 ^ 64

-- ---- one number

pub value : (n : ℕ) → n < 2 ^ 64 → digits_value 10 (decimal n) ≡ n
value n small = (decimal_is_IsNumeral n small).1

pub number_word : (word : List ℕ) (n : ℕ) → n < 2 ^ 64 → word ≡ decimal n → IsNumberWord word
number_word word n small is =
    let read : digits_value 10 word ≡ n = ap (digits_value 10) is ∙ value n small in
    record { spelled = is ∙ ap decimal (sym read); small = omega (arith, read) }

pub is_number : (word : List ℕ) (result : Option ℕ) → IfSome result (λ n. word ≡ decimal n) → IfSome result IsSmall
    → (IsNone result → (n : ℕ) → n < 2 ^ 64 → word ≡ decimal n → ⊥) → IsSome result ↔ IsNumberWord word
is_number word (Some n) is small none = (λ _. number_word word n small is, λ _. refl)
is_number word None is small none = (
  λ some. absurd (cc),
  λ number. absurd (none refl (digits_value 10 word) number.small number.spelled),
)

-- a first word is one number only
pub same_number : (words left rest : List (List ℕ)) (m n : ℕ) → m < 2 ^ 64 → n < 2 ^ 64 → words ≡ decimal m ∷ left
    → words ≡ decimal n ∷ rest → m ≡ n
same_number words left rest m n small also is other =
    sym (value m small) ∙ (ap (λ ws. digits_value 10 (get_or ws 0 [])) (sym is ∙ other) ∙ value n also)

-- ---- several numbers

pub values : (ns : List ℕ) → All IsSmall ns → map (digits_value 10) (map decimal ns) ≡ ns
values [] small = refl
values (n ∷ ns) small = λ i. value n (All-head IsSmall n ns small) i ∷ values ns (All-tail IsSmall n ns small) i

spelled : (words : List (List ℕ)) → All IsNumberWord words → words ≡ map decimal (map (digits_value 10) words)
spelled [] all = refl
spelled (w ∷ ws) all = λ i. (All-head IsNumberWord w ws all).spelled i ∷ spelled ws (All-tail IsNumberWord w ws all) i

-- the first of several words is read
pub read_first : (words left : List (List ℕ)) (word : List ℕ) (result : Option ℕ) → words ≡ word ∷ left
    → All IsNumberWord words
    → IfSome result (λ n. word ≡ decimal n) → IfSome result IsSmall
    → (IsNone result → (n : ℕ) → n < 2 ^ 64 → word ≡ decimal n → ⊥)
    → MatchOption result ((map (digits_value 10) words ≡ []) × (map (digits_value 10) left ≡ []))
    (λ n. map (digits_value 10) words ≡ n ∷ map (digits_value 10) left)
read_first words left word (Some n) cut all is small none =
    ap (map (digits_value 10)) cut ∙ ap (λ m. m ∷ map (digits_value 10) left) (ap (digits_value 10) is ∙ value n small)
read_first words left word None cut all is small none =
    let number = All-head IsNumberWord word left (subst (All IsNumberWord) cut all) in
    absurd (none refl (digits_value 10 word) number.small number.spelled)

-- each number is a word
pub are_words : (ns : List ℕ) → All IsSmall ns → All IsWord (map decimal ns)
are_words ns small = All-map IsWord decimal ns (λ k d below. decimal_is_word (get_or ns k d) (small k d below))

-- words are numbers if there is one or more and each is a number
pub are_numbers : (words : List (List ℕ)) → (0 < length words) × All IsNumberWord words
    → AreNumbers words (map (digits_value 10) words)
are_numbers words is = record {
  spelled = spelled words is.1;
  some = omega (arith, is.0, length-map words (digits_value 10));
  small = All-map IsSmall (digits_value 10) words (λ k d below. (is.1 k d below).small);
}

-- and only then
pub only_numbers : (words : List (List ℕ)) (ns : List ℕ) → AreNumbers words ns → (0 < length words)
    × All IsNumberWord words
only_numbers words ns are = (
  omega (arith, ap length are.spelled, length-map ns decimal, are.some),
  All-same IsNumberWord words (map decimal ns) are.spelled
      (All-map IsNumberWord decimal ns (λ k d below. number_word (decimal (get_or ns k d)) (get_or ns k d)
      (are.small k d below) refl)),
)

-- there is a word in each text
pub row_of : (text : List ℕ) (b : Bool) → IsTrue b ↔ All IsNumberWord (slice_split is_space text)
    → IsTrue b ↔ ((0 < length (slice_split is_space text)) × All IsNumberWord (slice_split is_space text))
row_of text b is = (λ yes. (omega (arith, length-slice_split is_space text), is.0 yes), λ row. is.1 row.1)

-- and none if no text is left
pub no_row : IsTrue false ↔ ((0 < length {A = List ℕ} []) × All IsNumberWord [])
no_row = (λ yes. absurd (cc), λ row. absurd (omega (arith, row.0)))

-- one word of several was found to be a number
pub one_less : (all words left : List (List ℕ)) (word : List ℕ) → words ≡ word ∷ left → IsNumberWord word
    → All IsNumberWord all ↔ All IsNumberWord words → All IsNumberWord all ↔ All IsNumberWord left
one_less all words left word cut number so_far = (
  λ each. All-rest IsNumberWord word left words cut (so_far.0 each),
  λ rest. so_far.1 (All-same IsNumberWord words (word ∷ left) cut (All-cons IsNumberWord word left number rest)),
)
