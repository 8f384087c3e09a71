-- The ids that digests list.
use Rattle.std.proofs.Common.{◌≡◌, ℕ, List, [], ◌∷◌, ◌++◌, Some, refl, ap, ◌∙◌}
use Rattle.std.specs.Prelude.{Option, None}
use Rattle.entry.specs.declared.digest.Listed.{Listed}
use Rattle.entry.specs.Limits.{ids_in}
use Rattle.entry.specs.Text.{listed_ids}
use Rattle.log_laws.specs.Heads.{Start, ids_of, listed_with, digest_with, digest_for}

pub ids_with : (ids ns : List ℕ) → ids_in (listed_with ids ns) ≡ ids
ids_with [] ns = refl
ids_with (s ∷ ids) [] = ap (λ (l : List ℕ). s ∷ l) (ids_with ids [])
ids_with (s ∷ ids) (n ∷ ns) = ap (λ (l : List ℕ). s ∷ l) (ids_with ids ns)

pub ids_push : (ss : List Listed) (own : Listed) → ids_in (ss ++ own ∷ []) ≡ ids_in ss ++ own.id ∷ []
ids_push [] own = refl
ids_push (s ∷ ss) own = ap (λ (l : List ℕ). s.id ∷ l) (ids_push ss own)

pub ids_digest : (others : List ℕ) (lens : Option (List ℕ)) (id : ℕ)
    → listed_ids (digest_with others lens id) ≡ others ++ id ∷ []
ids_digest others None id = refl
ids_digest others (Some ns) id =
    ids_push (listed_with others ns) _ ∙ ap (λ (l : List ℕ). l ++ id ∷ []) (ids_with others ns)

-- a head's digest has its ids, with lengths or without
pub ids_listed : (n : Start) → listed_ids (digest_for n) ≡ ids_of n
ids_listed n = ids_digest n.others n.lens n.id
