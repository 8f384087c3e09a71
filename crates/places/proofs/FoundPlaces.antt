-- The place at which a key is found is added, moved, or removed.
use Rattle.std.proofs.Common.{◌≡◌, Bool, true, false, ◌==◌, List, [], ◌∷◌, ◌++◌, refl, sym, ap, subst, ◌∙◌, ℕ}
use Rattle.std.proofs.Common.{if◌then◌else◌}
use Rattle.std.specs.Prelude.{Option, Some, None}
use Rattle.std.proofs.lemmas.Bool.{and_parts, and_from}
use Rattle.std.proofs.lemmas.Bool.Decides.{Decides-eqb}
use Rattle.std.proofs.lemmas.List.{append-nil}
use Rattle.std.proofs.lemmas.Option.{same_Some}
use Rattle.entry.specs.declared.key.Key.{Key}
use Rattle.places.specs.declared.place.Place.{Place}
use Rattle.places.specs.declared.place.Held.{Held}
use Rattle.places.proofs.Finding.{tells_is, tells_from, found_is, found_here, found_later, kept_tail}
use Rattle.places.proofs.Changing.{set_behind, cuts_out, puts_among, puts_in_place}
use Rattle.places.specs.Lists.{tells, found_in, AreKeptIn, IsSetIn, is_same_place, is_same, relocated_in, without}

-- ---- the same place under the same hash

pub same_true : (h g : Held) → is_same h g ≡ true → g ≡ h
same_true h g is =
    let parts = and_parts (g.hash == h.hash) (is_same_place h.place g.place) is in
    let place = and_parts (g.place.segment == h.place.segment) (g.place.at == h.place.at) parts.1 in
    let hash = (Decides-eqb g.hash h.hash).0 parts.0 in
    let segment = (Decides-eqb g.place.segment h.place.segment).0 place.0 in
    let at = (Decides-eqb g.place.at h.place.at).0 place.1 in
    λ i. record { hash = hash i; place = record { segment = segment i; at = at i } }

pub same_from : (h g : Held) → g.hash ≡ h.hash → g.place ≡ h.place → is_same h g ≡ true
same_from h g hash place =
    and_from (g.hash == h.hash) (is_same_place h.place g.place) ((Decides-eqb g.hash h.hash).1 hash)
    (and_from (g.place.segment == h.place.segment) (g.place.at == h.place.at)
    ((Decides-eqb g.place.segment h.place.segment).1 (ap (λ (p : Place). p.segment) place))
    ((Decides-eqb g.place.at h.place.at).1 (ap (λ (p : Place). p.at) place)))

module _ (keys : Place → Option Key) (k : Key) where
  other_same : (h g : Held) (hs : List Held) → found_in keys k (g ∷ hs) ≡ Some h.place → tells keys k g.place ≡ false
      → is_same h g ≡ false
  other_same h g hs is isnt = go (is_same h g) refl
    where
      go : (t : Bool) → is_same h g ≡ t → is_same h g ≡ false
      go true so =
          let place : g.place ≡ h.place = ap (λ (x : Held). x.place) (same_true h g so) in
          let there : keys g.place ≡ Some k = ap keys place ∙ found_is keys k (g ∷ hs) h.place is in
          let told = tells_from keys k g.place there in
          absurd (cc)
      go false other = other

module _ {hash_of : Key → ℕ} (keys : Place → Option Key) (k : Key) where
  -- the place at which a key is found is the first under its hash that is this one
  found_same : (h g : Held) (hs : List Held) → AreKeptIn hash_of keys (g ∷ hs) → found_in keys k (g ∷ hs) ≡ Some h.place
      → h.hash ≡ hash_of k
      → tells keys k g.place ≡ true → is_same h g ≡ true
  found_same h g hs all is of so =
      let place : g.place ≡ h.place = same_Some g.place h.place (sym (found_here keys k g hs so) ∙ is) in
      let told = all.told.0 in
      let key : told.0 ≡ k = same_Some told.0 k (sym told.1 ∙ tells_is keys k g.place so) in
      same_from h g (told.2 ∙ ap (λ (x : Key). hash_of x) key ∙ sym of) place

  -- it moves
  pub relocated_set : (hs : List Held) (h : Held) (to : Place) → AreKeptIn hash_of keys hs
      → found_in keys k hs ≡ Some h.place → h.hash ≡ hash_of k
      → keys to ≡ Some k → IsSetIn hash_of keys hs k (Some to) (relocated_in h to hs)
  relocated_set [] h to all is of there = absurd (cc)
  relocated_set (g ∷ gs) h to all is of there =
      go (tells keys k g.place) refl (λ is'. relocated_set gs h to (kept_tail keys g gs all) is' of there)
    where
      go : (t : Bool) → tells keys k g.place ≡ t → (found_in keys k gs ≡ Some h.place
          → IsSetIn hash_of keys gs k (Some to) (relocated_in h to gs))
          → IsSetIn hash_of keys (g ∷ gs) k (Some to) (relocated_in h to (g ∷ gs))
      go true so rest =
          let same = found_same h g gs all is of so in
          let moved : relocated_in h to (g ∷ gs) ≡ record g { place = to } ∷ gs =
          ap (λ (b : Bool). if b then record g { place = to } ∷ gs else g ∷ relocated_in h to gs) same in
          let hash : g.hash ≡ hash_of k = ap (λ (x : Held). x.hash) (same_true h g same) ∙ of in
          subst (λ (xs : List Held). IsSetIn hash_of keys (g ∷ gs) k (Some to) xs) (sym moved)
          (puts_in_place keys [] gs g (record g { place = to }) k all (tells_is keys k g.place so) there hash)
      go false isnt rest =
          let moved : relocated_in h to (g ∷ gs) ≡ g ∷ relocated_in h to gs =
          ap (λ (b : Bool). if b then record g { place = to } ∷ gs else g ∷ relocated_in h to gs)
          (other_same keys k h g gs is isnt) in
          subst (λ (xs : List Held). IsSetIn hash_of keys (g ∷ gs) k (Some to) xs) (sym moved)
          (set_behind keys g gs (relocated_in h to gs) k (Some to) all isnt
          (rest (sym (found_later keys k g gs isnt) ∙ is)))

  -- it is taken out
  pub without_set : (hs : List Held) (h : Held) → AreKeptIn hash_of keys hs → found_in keys k hs ≡ Some h.place
      → h.hash ≡ hash_of k → IsSetIn hash_of keys hs k None (without h hs)
  without_set [] h all is of = absurd (cc)
  without_set (g ∷ gs) h all is of =
      go (tells keys k g.place) refl (λ is'. without_set gs h (kept_tail keys g gs all) is' of)
    where
      go : (t : Bool) → tells keys k g.place ≡ t → (found_in keys k gs ≡ Some h.place
          → IsSetIn hash_of keys gs k None (without h gs))
          → IsSetIn hash_of keys (g ∷ gs) k None (without h (g ∷ gs))
      go true so rest =
          let out : without h (g ∷ gs) ≡ gs =
          ap (λ (b : Bool). if b then gs else g ∷ without h gs) (found_same h g gs all is of so) in
          subst (λ (xs : List Held). IsSetIn hash_of keys (g ∷ gs) k None xs) (sym out)
          (cuts_out keys [] gs g k all (tells_is keys k g.place so))
      go false isnt rest =
          let out : without h (g ∷ gs) ≡ g ∷ without h gs =
          ap (λ (b : Bool). if b then gs else g ∷ without h gs) (other_same keys k h g gs is isnt) in
          subst (λ (xs : List Held). IsSetIn hash_of keys (g ∷ gs) k None xs) (sym out)
          (set_behind keys g gs (without h gs) k None all isnt (rest (sym (found_later keys k g gs isnt) ∙ is)))

  -- a place more
  pub last_set : (hs : List Held) (h : Held) → AreKeptIn hash_of keys hs → found_in keys k hs ≡ None
      → keys h.place ≡ Some k → h.hash ≡ hash_of k
      → IsSetIn hash_of keys hs k (Some h.place) (hs ++ h ∷ [])
  last_set hs h all none there of =
      let same = append-nil hs in
      subst (λ (xs : List Held). IsSetIn hash_of keys xs k (Some h.place) (hs ++ h ∷ [])) same
      (puts_among keys hs [] h k (subst (λ (xs : List Held). AreKeptIn hash_of keys xs) (sym same) all) there of
      (ap (λ (xs : List Held). found_in keys k xs) same ∙ none))
