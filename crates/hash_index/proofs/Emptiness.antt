-- Buckets without places.
use Rattle.std.proofs.Common.{◌≡◌, ℕ, suc, List, [], ◌∷◌, ◌++◌, length, ap, ◌∙◌, arith}
use Rattle.std.specs.Prelude.{Result, Ok, Err, OnOk, OnErr}
use Rattle.std.proofs.lemmas.Grind.{flat_map-append}
use Rattle.places.specs.declared.place.Held.{Held}
use Rattle.place_index.specs.Parted.{places_in, AreInParts}

-- buckets without places are in their parts
pub empty_parts : (part_of : ℕ → ℕ) (i : ℕ) (bs : List (List Held)) → places_in bs ≡ [] → AreInParts part_of i bs
empty_parts part_of i [] none = tt
empty_parts part_of i ([] ∷ bs) none = (tt, empty_parts part_of (suc i) bs none)
empty_parts part_of i ((h ∷ hs) ∷ bs) none =
    let some : suc (length (hs ++ places_in bs)) ≡ 0 = ap length none in absurd (omega arith)

-- one empty bucket more brings none
pub empty_more : {E : Type 0} (r : Result (Unit {0}) E) (old new : List (List Held)) (b : List Held) → b ≡ []
    → places_in old ≡ [] → OnOk r (new ≡ old ++ b ∷ []) → OnErr r (new ≡ old) → places_in new ≡ []
empty_more (Ok u) old new b empty none pushed same =
    ap places_in pushed ∙ flat_map-append (λ (x : List Held). x) old (b ∷ [])
    ∙ (λ i. none i ++ (empty i ++ []))
empty_more (Err e) old new b empty none pushed same = ap places_in same ∙ none
