-- Lists of objects, one behind the other.
use Rattle.std.proofs.Common.{◌≡◌, ℕ, ◌+◌, ◌<◌, List, [], ◌∷◌, ◌++◌, length, take, drop, get_or}
use Rattle.std.proofs.Common.{sym, ap, ◌∙◌, append_assoc}
use Rattle.std.specs.List.{flat_map}
use Rattle.std.proofs.lemmas.Grind.{flat_map-append}
use Rattle.std.proofs.lemmas.List.{append-nil, take-append-drop, at_drop_more}
use Rattle.entry.specs.declared.entry.Object.{Object}
use Rattle.claims.specs.Objects.{behind}

-- the last of a list that is behind others, and has only empty ones behind it, is the last of all
pub last_behind : (first : List Object) (others : List (List Object)) (n : ℕ) (part front : List Object) (o : Object)
    → n < length others → part ≡ get_or others n part → part ≡ front ++ o ∷ []
    → flat_map (λ (os : List Object). os) (drop (n + 1) others) ≡ []
    → behind first others ≡ (first ++ (flat_map (λ (os : List Object). os) (take n others) ++ front)) ++ o ∷ []
last_behind first others n part front o lt at last empty =
    let all : List (List Object) → List Object = flat_map (λ (os : List Object). os) in
    let here : all (drop n others) ≡ front ++ o ∷ [] =
    at_drop_more all others n part lt ∙ ap (λ (os : List Object). os ++ all (drop (n + 1) others)) (sym at)
    ∙ ap (λ (os : List Object). part ++ os) empty ∙ append-nil part ∙ last in
    ap (λ (os : List Object). first ++ os)
    (ap all (sym (take-append-drop n others)) ∙ flat_map-append (λ (os : List Object). os)
    (take n others) (drop n others)
    ∙ ap (λ (os : List Object). all (take n others) ++ os) here
    ∙ sym (append_assoc (all (take n others)) front (o ∷ [])))
    ∙ sym (append_assoc first (all (take n others) ++ front) (o ∷ []))
