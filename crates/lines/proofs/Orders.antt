-- The words behind `recover`.
use Rattle.std.proofs.Common.{◌≡◌, ◌∙◌, ◌≤◌, ◌∷◌, [], None, ap, codes, ℕ, List, drop, arith}
use Rattle.std.specs.Fmt.{decimal}
use Rattle.std.proofs.lemmas.List.Elements.{All-cons, All-nil, All-tail}
use Rattle.lines.specs.Keys.{IsWord}
use Rattle.lines.specs.Grammar.{Idle, Recover, order_words, words_of}
use Rattle.lines.specs.Words.{NameOrder, ReadsOrder, ReadsWords}
use Rattle.lines.specs.declared.line.ReplayOrder.TheVariants.{Threads}
use Rattle.lines.proofs.Names.{sum_of, word_at}
use Rattle.lines.proofs.Spelling.{decimal_is_word}

is_threads : IsWord (codes "threads")
is_threads = record { some = search (arith); visible = λ k d below. search (arith) }

-- what is behind `threads`
pub threads : (words behind : List (List ℕ)) (n : ℕ) → (words ≡ decimal n ∷ behind) × (1 ≤ n) × (n ≤ 64) → behind ≡ []
    → NameOrder (codes "threads" ∷ words) (Threads n)
threads words behind n read end = record {
  spelled = ap (λ ws. codes "threads" ∷ ws) (read.0 ∙ ap (λ ws. decimal n ∷ ws) end);
  each = All-cons IsWord (codes "threads") (decimal n ∷ []) is_threads
      (All-cons IsWord (decimal n) [] (decimal_is_word n (omega (arith, read.2))) (All-nil IsWord));
  limits = (read.1, read.2);
}

-- words that name no order
pub no_order : (rest : List (List ℕ)) → ReadsOrder rest None → ReadsWords (codes "recover" ∷ rest) None
no_order rest none Idle are = are
no_order rest none (Recover order) are = none order (record {
  spelled = ap (drop 1) are.spelled;
  each = All-tail IsWord (codes "recover") (order_words order) are.each;
  limits = are.limits;
})
no_order rest none line are =
    let names : sum_of (codes "recover") ≡ sum_of (word_at 0 (words_of line)) =
    ap (λ ws. sum_of (word_at 0 ws)) are.spelled in absurd (omega arith)
