-- The places of a new pass, by entries and by offsets.
use Rattle.std.proofs.Common.{◌≡◌, ℕ, zero, suc, ◌+◌, true, inl, inr, List, [], ◌∷◌, ◌++◌, length, refl, sym, ap, subst}
use Rattle.std.proofs.Common.{◌∙◌, arith}
use Rattle.master_core.specs.cleaner.Passes.{places_from, places_of}
use Rattle.master_core.proofs.cleaner.Places.{place_at, from_data, from_append}
use Rattle.entry.specs.declared.entry.Entry.{Entry}
use Rattle.entry.specs.Bag.{IsAmong}
use Rattle.entry.specs.Format.{spelling}
use Rattle.entry.specs.Text.{text_of, is_data}
use Rattle.entry.proofs.BagLemmas.{among_left, among_right}
use Rattle.master_core.specs.log_laws.Compaction.{places}
use Rattle.master_core.specs.log_laws.Memory.{IsAt}
use Rattle.places.specs.declared.place.Place.{Place}

-- The entry is the one behind these.
pub record IsBehind (es : List Entry) (n : ℕ) (e : Entry) : Type 0 where
  pub before : List Entry
  pub after : List Entry
  pub split : es ≡ before ++ e ∷ after
  pub count : length before ≡ n

pub is_behind : (es : List Entry) (n : ℕ) (e : Entry) → IsAt es n e → IsBehind es n e
is_behind [] n e at = absurd at
is_behind (y ∷ es) zero e at =
    record { before = []; after = es; split = ap (λ (x : Entry). x ∷ es) at; count = refl }
is_behind (y ∷ es) (suc n) e at =
    let b = is_behind es n e at in
    record {
      before = y ∷ b.before;
      after = b.after;
      split = ap (λ (xs : List Entry). y ∷ xs) b.split;
      count = ap suc b.count;
    }

-- an object or a tombstone is at one of the places
pub place_there : (s : ℕ) (es before after : List Entry) (e : Entry) → es ≡ before ++ e ∷ after → is_data e ≡ true
    → IsAmong (place_at s (length (text_of before))) (places_from s 0 es)
place_there s es before after e split of_data =
    let at : 0 + length (text_of before) ≡ length (text_of before) = omega arith in
    let next = places_from s (length (text_of before) + length (spelling e)) after in
    let parts : places_from s 0 es ≡ places_from s 0 before ++ place_at s (length (text_of before)) ∷ next =
    ap (places_from s 0) split ∙ from_append s 0 before (e ∷ after)
    ∙ ap (λ (n : ℕ). places_from s 0 before ++ places_from s n (e ∷ after)) at
    ∙ ap (λ (ps : List Place). places_from s 0 before ++ ps)
    (from_data s (length (text_of before)) e after true of_data) in
    subst (λ (ps : List Place). IsAmong (place_at s (length (text_of before))) ps) (sym parts)
    (among_right (place_at s (length (text_of before))) (places_from s 0 before)
    (place_at s (length (text_of before)) ∷ next) (inl refl))

pub place_of : (images : ℕ → List Entry) (ids : List ℕ) (s : ℕ) (u : Place) → IsAmong s ids
    → IsAmong u (places_from s 0 (images s))
    → IsAmong u (places_of images ids)
place_of images [] s u among there = absurd among
place_of images (z ∷ ids) s u (inl same) there =
    among_left u (places_from z 0 (images z)) (places_of images ids)
    (subst (λ (x : ℕ). IsAmong u (places_from x 0 (images x))) (sym same) there)
place_of images (z ∷ ids) s u (inr later) there =
    among_right u (places_from z 0 (images z)) (places_of images ids) (place_of images ids s u later there)

-- if there is no entry there is no place
pub no_places : (images others : ℕ → List Entry) (ids : List ℕ) → ((s : ℕ) → IsAmong s ids → images s ≡ others s)
    → places ids images ≡ []
    → places_of others ids ≡ []
no_places images others [] same none = refl
no_places images others (s ∷ ids) same none = go (images s) refl
    (no_places images others ids (λ z m. same z (inr m))) where
      go : (es : List Entry) → images s ≡ es → (places ids images ≡ [] → places_of others ids ≡ [])
          → places_of others (s ∷ ids) ≡ []
      go [] empty later =
          let rest : places ids images ≡ [] = rw empty at none in
          ap (λ (es : List Entry). places_from s 0 es ++ places_of others ids)
          (sym (same s (inl refl)) ∙ empty) ∙ later rest
      go (e ∷ es) some later = (let never = rw some at none in absurd (cc))
