-- Places of a list.
use Rattle.std.proofs.Common.{◌≡◌, ◌<◌, ℕ, zero, suc, List, [], ◌∷◌, Some, length, set, get_or, refl, ◌∙◌, arith}
use Rattle.std.specs.Prelude.{slice_get}
use Rattle.std.proofs.lemmas.Option.{same_Some}

pub get_there : {X : Type 0} (xs : List X) (i : ℕ) (x a : X) → slice_get xs i ≡ Some a → x ≡ get_or xs i x → x ≡ a
get_there [] i x a e h = absurd (cc)
get_there (y ∷ ys) zero x a e h = h ∙ same_Some _ _ e
get_there (y ∷ ys) (suc i) x a e h = get_there ys i x a e h

pub set_there : {X : Type 0} (xs : List X) (i : ℕ) (a : X) → i < length xs → slice_get (set xs i a) i ≡ Some a
set_there [] i a l = absurd (omega arith)
set_there (x ∷ xs) zero a l = refl
set_there (x ∷ xs) (suc i) a l = set_there xs i a (omega arith)
