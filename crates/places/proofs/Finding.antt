-- The place at which a key is found in a list.
use Rattle.std.proofs.Common.{◌≡◌, Bool, true, false, List, [], ◌∷◌, ◌++◌, refl, sym, ap, subst, ◌∙◌, ◌⊎◌, inl, inr, ℕ}
use Rattle.std.proofs.Common.{if◌then◌else◌}
use Rattle.std.specs.Prelude.{Option, Some, None}
use Rattle.std.specs.List.{Contains}
use Rattle.std.specs.Option.{option_map_or}
use Rattle.std.proofs.lemmas.List.Elements.{Contains-append_left, Contains-append_right, Contains-push}
use Rattle.entry.specs.declared.key.Key.{Key}
use Rattle.entry.specs.Order.{key_eq}
use Rattle.entry.proofs.KeyOrder.{key_eq_decides, key_eq_tells}
use Rattle.places.specs.declared.place.Place.{Place}
use Rattle.places.specs.declared.place.Held.{Held}
use Rattle.places.specs.Lists.{tells, found_in, AreKeptIn}

key_told : (k : Key) (o : Option Key) → option_map_or (key_eq k) o false ≡ true → o ≡ Some k
key_told k None e = absurd (cc)
key_told k (Some a) e = let same : k ≡ a = (key_eq_decides k a).0 e in ap (λ (x : Key). Some x) (sym same)

pub key_itself : (k : Key) → key_eq k k ≡ true
key_itself k = (key_eq_decides k k).1 refl

module _ (keys : Place → Option Key) where
  pub tells_is : (k : Key) (p : Place) → tells keys k p ≡ true → keys p ≡ Some k
  tells_is k p e = key_told k (keys p) e

  -- whether another key stands where this one does
  pub tells_of : (q k : Key) (p : Place) → keys p ≡ Some k → tells keys q p ≡ key_eq q k
  tells_of q k p is = ap (λ (o : Option Key). option_map_or (key_eq q) o false) is

  pub tells_from : (k : Key) (p : Place) → keys p ≡ Some k → tells keys k p ≡ true
  tells_from k p is = tells_of k k p is ∙ key_itself k

  -- where a key stands, no other does
  pub other_key : (q k : Key) (p : Place) → keys p ≡ Some q → tells keys k p ≡ false → key_eq q k ≡ false
  other_key q k p is not_told = go (key_eq_tells q k)
    where
      go : ((key_eq q k ≡ true) × (q ≡ k)) ⊎ ((key_eq q k ≡ false) × (q ≡ k → ⊥)) → key_eq q k ≡ false
      go (inl so) = let t : tells keys k p ≡ true = tells_from k p (is ∙ ap (λ (x : Key). Some x) so.1) in absurd (cc)
      go (inr isnt) = isnt.0

  pub found_here : (k : Key) (h : Held) (hs : List Held) → tells keys k h.place ≡ true
      → found_in keys k (h ∷ hs) ≡ Some h.place
  found_here k h hs so = ap (λ (b : Bool). if b then Some h.place else found_in keys k hs) so

  pub found_later : (k : Key) (h : Held) (hs : List Held) → tells keys k h.place ≡ false
      → found_in keys k (h ∷ hs) ≡ found_in keys k hs
  found_later k h hs isnt = ap (λ (b : Bool). if b then Some h.place else found_in keys k hs) isnt

  -- what is found is a place where the key stands
  pub found_is : (k : Key) (hs : List Held) (p : Place) → found_in keys k hs ≡ Some p → keys p ≡ Some k
  found_is k [] p e = absurd (cc)
  found_is k (h ∷ hs) p e = go (tells keys k h.place) refl (found_is k hs p)
    where
      go : (t : Bool) → tells keys k h.place ≡ t → (found_in keys k hs ≡ Some p → keys p ≡ Some k) → keys p ≡ Some k
      go true so rest =
          let both : Some h.place ≡ Some p = sym (found_here k h hs so) ∙ e in
          let same : h.place ≡ p = cc in
          subst (λ (x : Place). keys x ≡ Some k) same (tells_is k h.place so)
      go false isnt rest = rest (sym (found_later k h hs isnt) ∙ e)

  -- a key that stands at one of the places is found
  pub found_among : (k : Key) (before after : List Held) (h : Held) → keys h.place ≡ Some k
      → found_in keys k (before ++ h ∷ after) ≡ None → ⊥
  found_among k [] after h is none = let some = found_here k h after (tells_from k h.place is) in cc
  found_among k (x ∷ before) after h is none = go (tells keys k x.place) refl (found_among k before after h is)
    where
      go : (t : Bool) → tells keys k x.place ≡ t → (found_in keys k (before ++ h ∷ after) ≡ None → ⊥) → ⊥
      go true so rest = let some = found_here k x (before ++ h ∷ after) so in cc
      go false isnt rest = rest (sym (found_later k x (before ++ h ∷ after) isnt) ∙ none)

  pub kept_tail : {hash_of : Key → ℕ} → (x : Held) (hs : List Held) → AreKeptIn hash_of keys (x ∷ hs)
      → AreKeptIn hash_of keys hs
  kept_tail x hs all = record { told = all.told.1; apart = all.apart.1 }

  -- no place before a key's is the key's
  pub not_first : {hash_of : Key → ℕ} → (k : Key) (x : Held) (before after : List Held) (h : Held)
      → AreKeptIn hash_of keys (x ∷ before ++ h ∷ after)
      → keys h.place ≡ Some k → tells keys k x.place ≡ false
  not_first k x before after h all is = go (tells keys k x.place) refl
    where
      go : (t : Bool) → tells keys k x.place ≡ t → tells keys k x.place ≡ false
      go true so = absurd (found_among k before after h is (all.apart.0 k (tells_is k x.place so)))
      go false isnt = isnt

  -- a kept key is found at its own place
  pub found_at : {hash_of : Key → ℕ} → (k : Key) (before after : List Held) (h : Held)
      → AreKeptIn hash_of keys (before ++ h ∷ after)
      → keys h.place ≡ Some k → found_in keys k (before ++ h ∷ after) ≡ Some h.place
  found_at k [] after h all is = found_here k h after (tells_from k h.place is)
  found_at k (x ∷ before) after h all is =
      found_later k x (before ++ h ∷ after) (not_first k x before after h all is)
      ∙ found_at k before after h (kept_tail x _ all) is

  -- what is found is one of the places
  pub found_contained : (k : Key) (hs : List Held) (p : Place) → found_in keys k hs ≡ Some p → (h : Held)
      × (h.place ≡ p) × Contains hs h
  found_contained k [] p e = absurd (cc)
  found_contained k (h ∷ hs) p e = go (tells keys k h.place) refl (found_contained k hs p)
    where
      go : (t : Bool) → tells keys k h.place ≡ t → (found_in keys k hs ≡ Some p → (x : Held) × (x.place ≡ p)
          × Contains hs x) → (x : Held) × (x.place ≡ p) × Contains (h ∷ hs) x
      go true so rest =
          let both : Some h.place ≡ Some p = sym (found_here k h hs so) ∙ e in
          let same : h.place ≡ p = cc in
          (h, same, Contains-append_left (h ∷ []) hs h (Contains-push [] h))
      go false isnt rest =
          let r = rest (sym (found_later k h hs isnt) ∙ e) in
          (r.0, r.1, Contains-append_right (h ∷ []) hs r.0 r.2)
