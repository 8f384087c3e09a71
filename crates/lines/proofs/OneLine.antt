-- No text is that of two lines.
use Rattle.std.proofs.Common.{◌≡◌, ◌∙◌, ◌<◌, ◌∷◌, [], ap, sym, refl, subst, ℕ, List, get_or, inl, inr, arith}
use Rattle.std.specs.List.{join_with_byte}
use Rattle.lines.specs.Grammar.{IsIdle, LineValue, Says, Idle, words_of, EachTextSaysOneLine}
use Rattle.lines.proofs.Names.{line_is}
use Rattle.lines.proofs.Spelling.{cut_or_idle}

abbrev head : List ℕ → ℕ
head [] = 0
head (b ∷ bs) = b

-- words that are joined begin as the first of them
first_of_joined : (words : List (List ℕ)) → 0 < head (get_or words 0 [])
    → head (join_with_byte 32 words) ≡ head (get_or words 0 [])
first_of_joined [] some = refl
first_of_joined (word ∷ []) some = refl
first_of_joined ([] ∷ next ∷ words) some = absurd (omega arith)
first_of_joined ((b ∷ bs) ∷ next ∷ words) some = refl

-- an idle line is written as no other line is
only_idle : (text : List ℕ) (line : LineValue) → IsIdle text → Says text line → line ≡ Idle
only_idle text Idle idle says = refl
only_idle text line idle says =
    let begins = first_of_joined (words_of line) (omega arith) in
    elim idle [
      | inl e ↦ let first : 0 ≡ head (get_or (words_of line) 0 []) = ap head (sym e ∙ says.spaced) ∙ begins in
          absurd (omega arith)
      | inr p ↦ let first : 35 ≡ head (get_or (words_of line) 0 []) = ap head (sym p.1 ∙ says.spaced) ∙ begins in
          absurd (omega arith)
    ]

pub one_line : EachTextSaysOneLine
one_line text one other says also =
    elim (cut_or_idle text one says) [
      | inl idle ↦ idle ∙ sym (only_idle text other (subst (Says text) idle says) also)
      | inr a ↦ elim (cut_or_idle text other also) [
        | inl idle ↦ only_idle text one (subst (Says text) idle also) says ∙ sym idle
        | inr b ↦ sym (line_is _ one a) ∙ line_is _ other b
      ]
    ]
