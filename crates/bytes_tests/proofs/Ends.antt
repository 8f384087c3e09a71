-- The last id of a digest.
use Rattle.std.proofs.Common.{◌≡◌, ℕ, ◌-◌, List, [], ◌∷◌, length, map, true, nat_eq, Some, sym, ap, ◌∙◌, arith}
use Rattle.std.specs.Prelude.{slice_get}
use Rattle.std.specs.Option.{option_map}
use Rattle.std.proofs.lemmas.List.{length-map}
use Rattle.std.proofs.lemmas.Option.{slice_get-map}
use Rattle.entry.specs.declared.digest.Listed.{Listed}
use Rattle.entry.specs.Limits.{ids_in}
use Rattle.entry.specs.Text.{ends_with}
use Rattle.segment.proofs.OrderLemmas.{ends_with-last}

pub ends_last : (id : ℕ) (ids : List ℕ) (x : ℕ) → Some x ≡ slice_get ids (length ids - 1) → nat_eq x id ≡ true
    → ends_with id ids ≡ true
ends_last id [] x is same = absurd (cc)
ends_last id (y ∷ ys) x is same =
    ends_with-last id (y ∷ ys) (length (y ∷ ys) - 1) x (omega arith) (sym is) ∙ same

-- the same of segments with their lengths
pub ends_listed : (id : ℕ) (segments : List Listed) (x : Listed)
    → Some x ≡ slice_get segments (length segments - 1) → nat_eq x.id id ≡ true → ends_with id (ids_in segments) ≡ true
ends_listed id segments x is same =
    let number : Listed → ℕ = λ (s : Listed). s.id in
    ends_last id (ids_in segments) x.id
    (ap (option_map number) is ∙ sym (slice_get-map number segments (length segments - 1))
    ∙ ap (λ (n : ℕ). slice_get (map number segments) (n - 1)) (sym (length-map segments number))) same
