-- The words of a line are words, and its text is cut into them.
use Rattle.std.proofs.Common.{◌≡◌, ◌⊎◌, ◌∙◌, ◌+◌, ◌%◌, ◌<◌, ◌≤◌, ◌^◌, ◌++◌, ◌∷◌, [], codes, Some, None, inl, inr, ap}
use Rattle.std.proofs.Common.{sym, refl, subst, ℕ, suc, List, length-append, false, arith}
use Rattle.std.specs.List.{All, slice_split, join_with_byte}
use Rattle.std.specs.Fmt.{decimal}
use Rattle.std.proofs.lemmas.Bool.Decides.{nat_tests}
use Rattle.std.proofs.lemmas.List.Elements.{All-push, All-nil, All-cons}
use Rattle.std.proofs.lemmas.List.Splits.{slice_split_at, slice_split_none, join_with_byte-slice_split}
use Rattle.std.proofs.lemmas.Fmt.{decimal_by_steps}
use Rattle.lines.specs.Keys.{IsKeyWord, IsWord}
use Rattle.lines.specs.Grammar.{IsIdle, LineValue, Says, Idle, Del, Lose, Seglets, Tend, shown_line}
use Rattle.lines.specs.Cutting.{is_space}
use Rattle.lines.specs.Words.{AreNumber, AreWordsOf, ReadsWords}
use Rattle.lines.specs.declared.line.Line.{Line}

-- ---- words

abbrev IsVisible : ℕ → Type 0
IsVisible b = (33 ≤ b) × (b ≤ 126)

one_digit : (n : ℕ) → n < 10 → IsWord ((48 + n) ∷ [])
one_digit n small = record {
  some = omega arith;
  visible = All-cons IsVisible (48 + n) [] (omega arith, omega arith)
      (All-nil IsVisible);
}

more_digits : (n : ℕ) (digits : List ℕ) → 10 ≤ n → IsWord digits → IsWord (digits ++ (48 + n % 10) ∷ [])
more_digits n digits large word = record {
  some = omega (arith, length-append digits ((48 + n % 10) ∷ []));
  visible = All-push IsVisible digits (48 + n % 10) word.visible (omega arith, omega arith);
}

pub decimal_is_word : (n : ℕ) → n < 2 ^ 64 → IsWord (decimal n)
decimal_is_word = decimal_by_steps (λ n digits. IsWord digits) one_digit more_digits

is_del : IsWord (codes "del")
is_del = record { some = search (arith); visible = λ k d below. search (arith) }

is_lose : IsWord (codes "lose")
is_lose = record { some = search (arith); visible = λ k d below. search (arith) }

is_seglets : IsWord (codes "seglets")
is_seglets = record { some = search (arith); visible = λ k d below. search (arith) }

is_tend : IsWord (codes "tend")
is_tend = record { some = search (arith); visible = λ k d below. search (arith) }

-- what is behind `del`
pub del_words : (words : List (List ℕ)) (table : ℕ) (key : List ℕ) (behind : List (List ℕ))
    → words ≡ decimal table ∷ behind
    → table < 2 ^ 64 → (behind ≡ key ∷ []) × IsKeyWord key → AreWordsOf (codes "del" ∷ words) (Del table key)
del_words words table key behind cut small key_is = record {
  spelled = ap (λ ws. codes "del" ∷ ws) (cut ∙ ap (λ ws. decimal table ∷ ws) key_is.0);
  each = All-cons IsWord (codes "del") (decimal table ∷ key ∷ []) is_del
      (All-cons IsWord (decimal table) (key ∷ []) (decimal_is_word table small)
      (All-cons IsWord key [] key_is.1.word (All-nil IsWord)));
  limits = (small, key_is.1);
}

-- what is behind `lose`
pub lose_words : (words : List (List ℕ)) (backup : ℕ) → AreNumber words backup
    → AreWordsOf (codes "lose" ∷ words) (Lose backup)
lose_words words backup number = record {
  spelled = ap (λ ws. codes "lose" ∷ ws) number.spelled;
  each = All-cons IsWord (codes "lose") (decimal backup ∷ []) is_lose
      (All-cons IsWord (decimal backup) [] (decimal_is_word backup number.small) (All-nil IsWord));
  limits = number.small;
}

-- what is behind `seglets`
pub seglets_words : (words behind : List (List ℕ)) (n : ℕ) → (words ≡ decimal n ∷ behind) × (1 ≤ n) × (n ≤ 4294967296)
    → behind ≡ [] → AreWordsOf (codes "seglets" ∷ words) (Seglets n)
seglets_words words behind n read end = record {
  spelled = ap (λ ws. codes "seglets" ∷ ws) (read.0 ∙ ap (λ ws. decimal n ∷ ws) end);
  each = All-cons IsWord (codes "seglets") (decimal n ∷ []) is_seglets
      (All-cons IsWord (decimal n) [] (decimal_is_word n (omega (arith, read.2))) (All-nil IsWord));
  limits = (read.1, read.2);
}

-- what is behind `tend`
pub tend_words : (words behind : List (List ℕ)) (n : ℕ) → (words ≡ decimal n ∷ behind) × (1 ≤ n) × (n ≤ 65536)
    → behind ≡ [] → AreWordsOf (codes "tend" ∷ words) (Tend n)
tend_words words behind n read end = record {
  spelled = ap (λ ws. codes "tend" ∷ ws) (read.0 ∙ ap (λ ws. decimal n ∷ ws) end);
  each = All-cons IsWord (codes "tend") (decimal n ∷ []) is_tend
      (All-cons IsWord (decimal n) [] (decimal_is_word n (omega (arith, read.2))) (All-nil IsWord));
  limits = (read.1, read.2);
}

-- ---- cutting

no_space : (word : List ℕ) → IsWord word → All (λ b. is_space b ≡ false) word
no_space word is = λ k d below. let b = is.visible k d below in grind (arith, nat_tests)

-- a word is cut into itself, and no other text is
pub one_word : (text : List ℕ) → IsWord text → slice_split is_space text ≡ text ∷ []
one_word text word = slice_split_none is_space text (no_space text word)

pub one_word_only : (text word : List ℕ) → slice_split is_space text ≡ word ∷ [] → text ≡ word
one_word_only text word cut = sym (join_with_byte-slice_split 32 text) ∙ ap (join_with_byte 32) cut

pub split_joined : (word : List ℕ) (words : List (List ℕ)) → All IsWord (word ∷ words)
    → slice_split is_space (join_with_byte 32 (word ∷ words)) ≡ word ∷ words
split_joined word [] each = slice_split_none is_space word (no_space word (each 0 [] (omega arith)))
split_joined word (next ∷ rest) each =
    slice_split_at is_space word 32 (join_with_byte 32 (next ∷ rest)) (no_space word (each 0 [] (omega arith))) refl
    ∙ ap (λ l. word ∷ l) (split_joined next rest (λ k d below. each (suc k) d (omega arith)))

-- a text that is cut into the words of a line is that of the line
said_of_words : (text : List ℕ) (line : LineValue) → AreWordsOf (slice_split is_space text) line → Says text line
said_of_words text Idle are = absurd are
said_of_words text _ are = record {
  spaced = sym (join_with_byte-slice_split 32 text) ∙ ap (join_with_byte 32) are.spelled;
  words = are.each;
  limits = are.limits;
}

-- the text of a line that does something is cut into its words
pub cut_or_idle : (text : List ℕ) (line : LineValue) → Says text line → (line ≡ Idle)
    ⊎ AreWordsOf (slice_split is_space text) line
cut_or_idle text Idle says = inl refl
cut_or_idle text _ says = inr (record {
  spelled = ap (slice_split is_space) says.spaced ∙ split_joined _ _ says.words;
  each = says.words;
  limits = says.limits;
})

-- the line that is read of the words is that of the text
pub read_is_said : (text : List ℕ) (words : List (List ℕ)) (line : Line) → words ≡ slice_split is_space text
    → ReadsWords words (Some line) → Says text (shown_line line)
read_is_said text words line split reads = said_of_words text (shown_line line)
    (subst (λ ws. AreWordsOf ws (shown_line line)) split reads)

pub unread_is_unsaid : (text : List ℕ) (words : List (List ℕ)) → words ≡ slice_split is_space text → (IsIdle text → ⊥)
    → ReadsWords words None
    → (line : LineValue) → Says text line → ⊥
unread_is_unsaid text words split busy reads line says =
    elim (cut_or_idle text line says) [
      | inl idle ↦ busy (subst (Says text) idle says)
      | inr are ↦ reads line (subst (λ ws. AreWordsOf ws line) (sym split) are)
    ]
