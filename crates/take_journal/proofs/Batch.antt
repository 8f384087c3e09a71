-- The bytes that an append hands on.
use Rattle.std.proofs.Common.{◌≡◌, ◌<◌, ℕ, List, [], ◌∷◌, length, drop, Result, Ok, Err, OnErr, OnOk, sym, ◌∙◌, ap}
use Rattle.std.proofs.Common.{subst, arith}
use Rattle.std.proofs.Common.{Vec, Global, false, ◌==◌}
use Rattle.std.proofs.lemmas.Bool.{false≢true}
use Rattle.take_journal.specs.Frames.{AreShort, at_rest, recovered, texts_of}
use Rattle.take_journal.specs.Journal.{IsBatch}
use Rattle.take_journal.proofs.Reading.{recovered-at_rest}

pub texts_are : (texts : List (List ℕ)) (bytes : List ℕ) → AreShort texts → bytes ≡ at_rest texts
    → recovered bytes ≡ texts
texts_are texts bytes short is = ap recovered is ∙ recovered-at_rest texts short

pub is_batch : (texts : List (List ℕ)) (bytes : List ℕ) → 0 < length texts → AreShort texts → bytes ≡ at_rest texts
    → IsBatch bytes
is_batch [] bytes some short is = absurd (omega (arith, some))
is_batch (text ∷ texts) bytes some short is =
    let e = texts_are (text ∷ texts) bytes short is in
    record {
      spelled = is ∙ ap at_rest (sym e);
      short = subst AreShort (sym e) short;
      behind = drop 1 (at_rest (text ∷ texts));
      starts = is;
    }

pub some_texts : (xs : List (Vec ℕ Global)) → (length xs == 0) ≡ false → 0 < length (texts_of xs)
some_texts [] empty = absurd (false≢true (sym empty))
some_texts (x ∷ xs) empty = omega arith

pub in_any_case : {T E A : Type 0} (r : Result T E) → A → OnErr r A
in_any_case (Ok _) a = tt
in_any_case (Err _) a = a
