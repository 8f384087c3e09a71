-- Members of a front of a list, and what tells whether two lists have the same.
use Rattle.std.proofs.Common.{◌≡◌, ◌↔◌, ℕ, ◌<◌, ◌+◌, List, [], ◌∷◌, ◌++◌, length, take, get_or, inl, inr, refl, sym}
use Rattle.std.proofs.Common.{◌∙◌}
use Rattle.std.proofs.Common.{ap, subst, Bool, true, false, IsTrue}
use Rattle.std.proofs.lemmas.Grind.{take_at_read}
use Rattle.entry.specs.Bag.{IsAmong}
use Rattle.entry.proofs.BagLemmas.{among_at, among_push}

pub take_more : {X : Type 0} (xs : List X) (i : ℕ) (x : X) → i < length xs → x ≡ get_or xs i x
    → take (i + 1) xs ≡ take i xs ++ x ∷ []
take_more xs i x lt is = (take_at_read xs i x lt).1 ∙ ap (λ y. take i xs ++ y ∷ []) (sym is)

-- what isn't among the first i, and isn't the next one, isn't among one more
pub not_more : {X : Type 0} (wanted : X) (xs : List X) (i : ℕ) (x : X) → i < length xs → x ≡ get_or xs i x
    → (IsAmong wanted (take i xs) → ⊥) → (x ≡ wanted → ⊥) → IsAmong wanted (take (i + 1) xs) → ⊥
not_more wanted xs i x lt is none other among =
    elim (among_push wanted (take i xs) x (subst (λ ys. IsAmong wanted ys) (take_more xs i x lt is) among)) [
      | inl before ↦ none before
      | inr last ↦ other last
    ]

-- what holds of the first i, and of the next one, holds of one more
pub all_more : {X : Type 0} (P : X → Type 0) (xs : List X) (i : ℕ) (x : X) → i < length xs → x ≡ get_or xs i x
    → ((y : X) → IsAmong y (take i xs) → P y) → P x → (y : X) → IsAmong y (take (i + 1) xs) → P y
all_more P xs i x lt is all here y among =
    elim (among_push y (take i xs) x (subst (λ ys. IsAmong y ys) (take_more xs i x lt is) among)) [
      | inl before ↦ all y before
      | inr last ↦ subst P last here
    ]

-- a test that failed
pub untrue : (b : Bool) → b ≡ false → IsTrue b → ⊥
untrue b e holds = true-not-false (sym holds ∙ e)
  where
    true-not-false : true ≡ false → ⊥
    true-not-false bad = (cc)
