-- No text is that of a line without a key and of another line.
use Rattle.std.proofs.Common.{◌≡◌, ◌∙◌, ◌++◌, ◌∷◌, [], ap, sym, refl, subst, ℕ, List, length, codes, true, false, inl}
use Rattle.std.proofs.Common.{inr, arith}
use Rattle.std.specs.List.{All, slice_split}
use Rattle.std.proofs.lemmas.List.Elements.{All-nil, All-cons}
use Rattle.std.proofs.lemmas.List.Splits.{slice_split_at}
use Rattle.lines.specs.Cutting.{is_space}
use Rattle.lines.specs.Grammar.{IsIdle, LineValue, Says, Idle, Put, New, Cas, Get, Del}
use Rattle.lines.specs.Words.{AreWordsOf}
use Rattle.lines.proofs.Names.{line_is}
use Rattle.lines.proofs.OneLine.{one_line}
use Rattle.lines.proofs.Spelling.{cut_or_idle}
use Rattle.raw_lines.specs.Raw.{EachPlainTextSaysOneLine, HasNoKey, IsKeyLine, IsRaw, SaysIn, behind_name}

abbrev head : List ℕ → ℕ
head [] = 0
head (b ∷ bs) = b

abbrev IsNoSpace : ℕ → Type 0
IsNoSpace b = is_space b ≡ false

three : (a b c : ℕ) → IsNoSpace a → IsNoSpace b → IsNoSpace c → All IsNoSpace (a ∷ b ∷ c ∷ [])
three a b c first second third = All-cons IsNoSpace a (b ∷ c ∷ []) first
    (All-cons IsNoSpace b (c ∷ []) second (All-cons IsNoSpace c [] third (All-nil IsNoSpace)))

-- the line of a text that begins with this name: none that has no key
module _ (a b c : ℕ) (first : IsNoSpace a) (second : IsNoSpace b) (third : IsNoSpace c) (some : 35 ≡ a → ⊥)
    (keyed : (words : List (List ℕ)) (line : LineValue) → AreWordsOf ((a ∷ b ∷ c ∷ []) ∷ words) line
    → HasNoKey line → ⊥)
    (text rest : List ℕ) (is : text ≡ (a ∷ b ∷ c ∷ []) ++ 32 ∷ rest) where
  cut : slice_split is_space text ≡ (a ∷ b ∷ c ∷ []) ∷ slice_split is_space rest
  cut = ap (slice_split is_space) is
      ∙ slice_split_at is_space (a ∷ b ∷ c ∷ []) 32 rest (three a b c first second third) refl

  busy : IsIdle text → ⊥
  busy (inl e) = absurd (omega (arith, ap length (sym e ∙ is)))
  busy (inr p) = some (ap head (sym p.1 ∙ is))

  unsaid : (line : LineValue) → HasNoKey line → Says text line → ⊥
  unsaid line plain says = elim (cut_or_idle text line says) [
    | inl idle ↦ busy (subst (Says text) idle says)
    | inr are ↦ keyed (slice_split is_space rest) line (subst (λ ws. AreWordsOf ws line) cut are) plain
  ]

keyed_put : (words : List (List ℕ)) (line : LineValue) → AreWordsOf (codes "put" ∷ words) line → HasNoKey line → ⊥
keyed_put words line are plain = subst HasNoKey (sym (line_is (codes "put" ∷ words) line are)) plain

keyed_new : (words : List (List ℕ)) (line : LineValue) → AreWordsOf (codes "new" ∷ words) line → HasNoKey line → ⊥
keyed_new words line are plain = subst HasNoKey (sym (line_is (codes "new" ∷ words) line are)) plain

keyed_cas : (words : List (List ℕ)) (line : LineValue) → AreWordsOf (codes "cas" ∷ words) line → HasNoKey line → ⊥
keyed_cas words line are plain = subst HasNoKey (sym (line_is (codes "cas" ∷ words) line are)) plain

keyed_get : (words : List (List ℕ)) (line : LineValue) → AreWordsOf (codes "get" ∷ words) line → HasNoKey line → ⊥
keyed_get words line are plain = subst HasNoKey (sym (line_is (codes "get" ∷ words) line are)) plain

keyed_del : (words : List (List ℕ)) (line : LineValue) → AreWordsOf (codes "del" ∷ words) line → HasNoKey line → ⊥
keyed_del words line are plain = subst HasNoKey (sym (line_is (codes "del" ∷ words) line are)) plain

-- a text that is that of a line with a key is that of no line without one
not_both : (text : List ℕ) (one other : LineValue) → HasNoKey one → Says text one → IsRaw text other → ⊥
not_both text one (Put table key value) plain says raw =
    unsaid 112 117 116 refl refl refl (λ e. omega (arith, e)) keyed_put text (behind_name (Put table key value))
    raw.spaced one plain says
not_both text one (New table key value) plain says raw =
    unsaid 110 101 119 refl refl refl (λ e. omega (arith, e)) keyed_new text (behind_name (New table key value))
    raw.spaced one plain says
not_both text one (Cas table key version value) plain says raw =
    unsaid 99 97 115 refl refl refl (λ e. omega (arith, e)) keyed_cas text
    (behind_name (Cas table key version value)) raw.spaced one plain says
not_both text one (Get table key) plain says raw =
    unsaid 103 101 116 refl refl refl (λ e. omega (arith, e)) keyed_get text (behind_name (Get table key))
    raw.spaced one plain says
not_both text one (Del table key) plain says raw =
    unsaid 100 101 108 refl refl refl (λ e. omega (arith, e)) keyed_del text (behind_name (Del table key))
    raw.spaced one plain says
not_both text one _ plain says raw = raw.limits

-- a line without a key isn't written as one with a key
no_raw : (line : LineValue) → HasNoKey line → IsKeyLine line → ⊥
no_raw (Put table key value) plain limits = plain
no_raw (New table key value) plain limits = plain
no_raw (Cas table key version value) plain limits = plain
no_raw (Get table key) plain limits = plain
no_raw (Del table key) plain limits = plain
no_raw _ plain limits = limits

pub one_plain_line : EachPlainTextSaysOneLine
one_plain_line false text one other plain says also = sym (one_line text one other says also)
one_plain_line true text one other plain (inl raw) also = absurd (no_raw one plain raw.limits)
one_plain_line true text one other plain (inr said) (inl raw) = absurd (not_both text one other plain said.1 raw)
one_plain_line true text one other plain (inr said) (inr more) = sym (one_line text one other said.1 more.1)
