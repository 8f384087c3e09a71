-- What is found, id by id.
use Rattle.std.proofs.Common.{◌≡◌, ℕ, zero, suc, ◌<◌, ◌+◌, List, [], ◌∷◌, ◌++◌, take}
use Rattle.std.proofs.Common.{length, get_or, refl, sym, ap, subst, ◌∙◌, arith}
use Rattle.std.specs.Prelude.{◌⊎◌, ◌≤◌, true, false, Option, Some, None, IfSome, IsSomeAnd}
use Rattle.std.specs.Option.{option_copied}
use Rattle.std.specs.Borrow.{Bor}
use Rattle.std.specs.List.{slice_get}
use Rattle.std.proofs.lemmas.List.{length-take-le, get_or-take}
use Rattle.std.proofs.lemmas.Grind.{take_at_read}
use Rattle.entry.specs.declared.digest.Digest.{Digest}
use Rattle.entry.specs.Text.{listed_ids, listed_len}
use Rattle.replica.specs.declared.holding.Holding.{Holding}
use Rattle.recovery_plan.specs.Looked.{IsUsableFor, IsFound, AreFound, IsFirstLacking}

-- the element at a place, by either word
pub get-at : (xs : List ℕ) (i x : ℕ) → slice_get xs i ≡ Some x → get_or xs i 0 ≡ x
get-at [] i x e = absurd (cc)
get-at (y ∷ xs) zero x e = cc
get-at (y ∷ xs) (suc i) x e = get-at xs i x e

-- a length that is told at a place is that which is listed for its id
pub told-len : (d : Digest) (i x : ℕ) (n : Option ℕ) → slice_get (listed_ids d) i ≡ Some x
    → IsSomeAnd (slice_get (listed_ids d) i) (λ id. n ≡ listed_len id d) → n ≡ listed_len (get_or (listed_ids d) i 0) d
told-len d i x n is told =
    subst (λ (o : Option ℕ). IsSomeAnd o (λ id. n ≡ listed_len id d)) is told
    ∙ ap (λ id. listed_len id d) (sym (get-at (listed_ids d) i x is))

-- so what may be used by that length may be used for the id, and back
module _ (d : Digest) (id : ℕ) (n : Option ℕ) (h : Holding) (told : n ≡ listed_len id d) where
  abbrev UsableBy : Option ℕ → Type 0
  UsableBy m = (h.is_open ≡ false) ⊎ IfSome m (λ l. l ≤ length h.bytes)

  pub usable-by : UsableBy n → IsUsableFor d id h
  usable-by may = subst UsableBy told may

  pub by-usable : IsUsableFor d id h → UsableBy n
  by-usable may = subst UsableBy (sym told) may

pub true-not-false : false ≡ true → ⊥
true-not-false e = cc

-- what was copied was there
pub copied-some : {X : Type 0} (o : Option (Bor X)) (x : X) → option_copied o ≡ Some x → (b : Bor X) × (o ≡ Some b)
copied-some None x e = absurd (cc)
copied-some (Some b) x e = (b, refl)

module _ (look : ℕ → Option (Bor Holding)) (d : Digest) where
  found-push : (ids : List ℕ) (id : ℕ) (vs : List (Bor Holding)) (v : Bor Holding) → AreFound look d ids vs
      → IsFound look d id (Some v) → AreFound look d (ids ++ id ∷ []) (vs ++ v ∷ [])
  found-push [] id [] v found is = (is, tt)
  found-push [] id (w ∷ vs) v found is = absurd found
  found-push (x ∷ ids) id [] v found is = absurd found
  found-push (x ∷ ids) id (w ∷ vs) v found is = (found.0, found-push ids id vs v found.1 is)

  -- one more is found
  pub found-more : (ids : List ℕ) (i : ℕ) (vs ws : List (Bor Holding)) (v : Bor Holding)
      → AreFound look d (take i ids) vs → i < length ids → IsFound look d (get_or ids i 0) (Some v)
      → ws ≡ vs ++ v ∷ [] → AreFound look d (take (i + 1) ids) ws
  found-more ids i vs ws v found lt is all =
      let seam : take (i + 1) ids ≡ take i ids ++ get_or ids i 0 ∷ [] = (take_at_read ids i 0 lt).1 in
      subst (AreFound look d (take (i + 1) ids)) (sym all)
      (subst (λ l. AreFound look d l (vs ++ v ∷ [])) (sym seam)
      (found-push (take i ids) (get_or ids i 0) vs v found is))

  -- for each id something was found
  pub found-each : (ids : List ℕ) (vs : List (Bor Holding)) → AreFound look d ids vs → (k : ℕ) → k < length ids
      → (v : Bor Holding) × IsFound look d (get_or ids k 0) (Some v)
  found-each [] vs found k lt = absurd (omega arith)
  found-each (id ∷ ids) [] found k lt = absurd found
  found-each (id ∷ ids) (v ∷ vs) found zero lt = (v, found.0)
  found-each (id ∷ ids) (v ∷ vs) found (suc k) lt = found-each ids vs found.1 k (omega arith)

  -- the first that isn't found
  pub lacking-first : (i id : ℕ) (vs : List (Bor Holding)) → AreFound look d (take i (listed_ids d)) vs
      → i + 1 < length (listed_ids d) → get_or (listed_ids d) i 0 ≡ id
      → IsFound look d (get_or (listed_ids d) i 0) None → IsFirstLacking look d id
  lacking-first i id vs found lt at none = record {
    place = i;
    within = lt;
    listed = at;
    lacking = subst (λ n. IsFound look d n None) at none;
    before = λ k below.
        let ids = listed_ids d in
        let len : length (take i ids) ≡ i = length-take-le i ids (omega arith) in
        let same : get_or (take i ids) k 0 ≡ get_or ids k 0 = grind (arith, get_or-take) in
        subst (λ n. (v : Bor Holding) × IsFound look d n (Some v)) same
        (found-each (take i ids) vs found k (omega arith));
  }
