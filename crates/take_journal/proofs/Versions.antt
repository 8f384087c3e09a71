-- The version that the first text names.
use Rattle.std.proofs.Common.{◌≡◌, ◌↔◌, ℕ, ◌≤◌, ◌<◌, true, false, List, [], ◌∷◌, length, Some, None, get_or, eqb}
use Rattle.std.proofs.Common.{refl, sym, subst, arith}
use Rattle.std.specs.Prelude.{IsTrue}
use Rattle.std.proofs.lemmas.Bool.{eq-eqb, eqb-true, false≢true}
use Rattle.take_journal.specs.Crash.{HasVersion}
use Rattle.take_journal.specs.Frames.{first_frame, recovered}
use Rattle.take_journal.proofs.Reading.{recovered-none, recovered-some}

pub without : (file : List ℕ) → first_frame file ≡ None → IsTrue true ↔ HasVersion (recovered file)
without file none = (λ _. subst HasVersion (sym (recovered-none file none)) tt, λ _. refl)

of_empty : (text : List ℕ) (texts : List (List ℕ)) → length text < 1 → IsTrue false ↔ HasVersion (text ∷ texts)
of_empty [] texts short = (λ told. absurd (false≢true told), λ has. absurd has)
of_empty (x ∷ text) texts short = absurd (omega (arith, short))

of_text : (text : List ℕ) (texts : List (List ℕ)) → 1 ≤ length text
    → IsTrue (eqb (get_or text 0 0) 1) ↔ HasVersion (text ∷ texts)
of_text [] texts long = absurd (omega (arith, long))
of_text (x ∷ text) texts long = (λ told. eqb-true x 1 told, λ has. eq-eqb x 1 has)

pub empty_first : (file text after : List ℕ) → first_frame file ≡ Some (text, after) → length text < 1
    → IsTrue false ↔ HasVersion (recovered file)
empty_first file text after e short =
    subst (λ ts. IsTrue false ↔ HasVersion ts) (sym (recovered-some file text after e))
    (of_empty text (recovered after) short)

pub text_first : (file text after : List ℕ) → first_frame file ≡ Some (text, after) → 1 ≤ length text
    → IsTrue (eqb (get_or text 0 0) 1) ↔ HasVersion (recovered file)
text_first file text after e long =
    subst (λ ts. IsTrue (eqb (get_or text 0 0) 1) ↔ HasVersion ts) (sym (recovered-some file text after e))
    (of_text text (recovered after) long)
