-- The lines that are a name and numbers behind it.
use Rattle.std.proofs.Common.{◌∷◌, codes, ap, ℕ, List, map, arith}
use Rattle.std.specs.Fmt.{decimal}
use Rattle.std.proofs.lemmas.List.Elements.{All-cons}
use Rattle.lines.specs.Keys.{IsWord}
use Rattle.lines.specs.Grammar.{Clean, Begin}
use Rattle.lines.specs.Words.{AreNumbers, AreWordsOf}
use Rattle.lines.proofs.NumberWords.{are_words}

is_clean : IsWord (codes "clean")
is_clean = record { some = search (arith); visible = λ k d below. search (arith) }

is_begin : IsWord (codes "begin")
is_begin = record { some = search (arith); visible = λ k d below. search (arith) }

pub clean : (words : List (List ℕ)) (ns : List ℕ) → AreNumbers words ns → AreWordsOf (codes "clean" ∷ words) (Clean ns)
clean words ns are = record {
  spelled = ap (λ ws. codes "clean" ∷ ws) are.spelled;
  each = All-cons IsWord (codes "clean") (map decimal ns) is_clean (are_words ns are.small);
  limits = (are.some, are.small);
}

pub begin : (words : List (List ℕ)) (ns : List ℕ) → AreNumbers words ns → AreWordsOf (codes "begin" ∷ words) (Begin ns)
begin words ns are = record {
  spelled = ap (λ ws. codes "begin" ∷ ws) are.spelled;
  each = All-cons IsWord (codes "begin") (map decimal ns) is_begin (are_words ns are.small);
  limits = (are.some, are.small);
}
