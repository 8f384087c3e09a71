-- What is printed part by part.
use Rattle.std.proofs.Common.{◌≡◌, ◌∙◌, ◌++◌, ◌∷◌, [], ap, sym, refl, subst, ℕ, List, length, append_assoc, true, false}
use Rattle.versioned_map.specs.declared.command.Reply.{Reply}
use Rattle.versioned_map.specs.declared.command.Reply.TheVariants as reply
use Rattle.answers.specs.claims.declared.rebuilt.Rebuilt.{Rebuilt}
use Rattle.std.specs.Fmt.{decimal}
use Rattle.entry.specs.declared.entry.Object.{Object}
use Rattle.answers.specs.declared.answer.Answer.{Answer}
use Rattle.answers.specs.declared.answer.Answer.TheVariants as answer
use Rattle.answers.specs.Texts.{answer_text, reply_text}
use Rattle.raw_lines.specs.Raw.{counted}
use Rattle.raw_answers.specs.Texts.{raw_reply_text, told_text}

-- without raw bytes each answer has its usual text
pub told_plain : (a : Answer) → told_text false a ≡ answer_text a
told_plain (answer.Reply r) = refl
told_plain (answer.Recovered r) = refl
told_plain (answer.Listed os) = refl
told_plain _ = refl

-- a number and a byte, and what is behind them
pub number_first : (n end : ℕ) (behind : List ℕ) → (decimal n ++ end ∷ []) ++ behind ≡ decimal n ++ end ∷ behind
number_first n end behind = append_assoc (decimal n) (end ∷ []) behind

-- the bytes behind their length, and one byte more
pub counted_first : (bytes : List ℕ) (n last : ℕ) → n ≡ length bytes
    → (decimal n ++ 58 ∷ []) ++ (bytes ++ last ∷ []) ≡ counted bytes ++ last ∷ []
counted_first bytes n last is =
    ap (λ (k : ℕ). (decimal k ++ 58 ∷ []) ++ (bytes ++ last ∷ [])) is
    ∙ number_first (length bytes) 58 (bytes ++ last ∷ [])
    ∙ sym (append_assoc (decimal (length bytes)) (58 ∷ bytes) (last ∷ []))

pub counted_later : (bytes : List ℕ) (n last : ℕ) → n ≡ length bytes
    → ((decimal n ++ 58 ∷ []) ++ bytes) ++ last ∷ [] ≡ counted bytes ++ last ∷ []
counted_later bytes n last is =
    append_assoc (decimal n ++ 58 ∷ []) bytes (last ∷ []) ∙ counted_first bytes n last is

-- an answer without a value or a key has its usual text
pub told_other : (a : Answer) → ((r : Reply) → a ≡ answer.Reply r → ⊥) → ((r : Rebuilt) → a ≡ answer.Recovered r → ⊥)
    → ((os : List Object) → a ≡ answer.Listed os → ⊥)
    → told_text true a ≡ answer_text a
told_other (answer.Reply r) reply_not rebuilt_not listed_not = absurd (reply_not r refl)
told_other (answer.Recovered r) reply_not rebuilt_not listed_not = absurd (rebuilt_not r refl)
told_other (answer.Listed os) reply_not rebuilt_not listed_not = absurd (listed_not os refl)
told_other _ reply_not rebuilt_not listed_not = refl

-- and so has a reply
pub reply_other : (r : Reply) → ((version : ℕ) (value : List ℕ) → r ≡ reply.Found version value → ⊥)
    → raw_reply_text r ≡ reply_text r
reply_other (reply.Found version value) found_not = absurd (found_not version value refl)
reply_other _ found_not = refl

-- a version and what is behind it
pub version_first : (n version : ℕ) (behind : List ℕ) → n ≡ version
    → (decimal n ++ 32 ∷ []) ++ behind ≡ decimal version ++ 32 ∷ behind
version_first n version behind is =
    number_first n 32 behind ∙ ap (λ (k : ℕ). decimal k ++ 32 ∷ behind) is

-- a table and a key, and what is behind them
pub table_key : (table : ℕ) (key behind : List ℕ)
    → ((decimal table ++ 32 ∷ []) ++ (counted key ++ 32 ∷ [])) ++ behind
    ≡ decimal table ++ 32 ∷ (counted key ++ 32 ∷ behind)
table_key table key behind =
    append_assoc (decimal table ++ 32 ∷ []) (counted key ++ 32 ∷ []) behind
    ∙ ap (λ l. (decimal table ++ 32 ∷ []) ++ l) (append_assoc (counted key) (32 ∷ []) behind)
    ∙ number_first table 32 (counted key ++ 32 ∷ behind)
