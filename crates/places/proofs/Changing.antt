-- Lists of places to which one is added, from which one is removed, or in which one is replaced.
use Rattle.std.proofs.Common.{◌≡◌, Bool, true, false, List, [], ◌∷◌, ◌++◌, refl, sym, ap, subst, ◌∙◌, ◌⊎◌, inl, inr, ℕ}
use Rattle.std.proofs.Common.{if◌then◌else◌}
use Rattle.std.specs.Prelude.{Option, Some, None}
use Rattle.entry.specs.declared.key.Key.{Key}
use Rattle.entry.specs.Order.{key_eq}
use Rattle.entry.proofs.KeyOrder.{key_eq_tells}
use Rattle.places.specs.declared.place.Place.{Place}
use Rattle.places.specs.declared.place.Held.{Held}
use Rattle.places.proofs.Finding.{key_itself, tells_is, tells_of, other_key, found_here, found_later, kept_tail}
use Rattle.places.proofs.Finding.{not_first}
use Rattle.places.specs.Lists.{tells, found_in, IsTold, AreKeptIn, IsSetIn}

if_again : {A : Type 0} (t : Bool) (a b c : A) → (if t then b else (if t then a else c)) ≡ (if t then b else c)
if_again true a b c = refl
if_again false a b c = refl

module _ {hash_of : Key → ℕ} (keys : Place → Option Key) where
  pub kept_cons : (x : Held) (hs : List Held) → IsTold hash_of keys x
      → ((k : Key) → keys x.place ≡ Some k → found_in keys k hs ≡ None) → AreKeptIn hash_of keys hs
      → AreKeptIn hash_of keys (x ∷ hs)
  kept_cons x hs told alone all = record { told = (told, all.told); apart = (alone, all.apart) }

  -- a change behind a place that isn't the key's
  pub set_behind : (x : Held) (old new : List Held) (k : Key) (o : Option Place) → AreKeptIn hash_of keys (x ∷ old)
      → tells keys k x.place ≡ false → IsSetIn hash_of keys old k o new → IsSetIn hash_of keys (x ∷ old) k o (x ∷ new)
  set_behind x old new k o all not_told s = record { kept = kept_cons x new all.told.0 alone s.kept; finds = finds }
    where
      alone : (q : Key) → keys x.place ≡ Some q → found_in keys q new ≡ None
      alone q is =
          s.finds q
          ∙ ap (λ (b : Bool). if b then o else found_in keys q old) (other_key keys q k x.place is not_told)
          ∙ all.apart.0 q is

      finds : (q : Key) → found_in keys q (x ∷ new) ≡ (if key_eq q k then o else found_in keys q (x ∷ old))
      finds q = go (tells keys q x.place) refl
        where
          go : (t : Bool) → tells keys q x.place ≡ t → found_in keys q (x ∷ new)
              ≡ (if key_eq q k then o else found_in keys q (x ∷ old))
          go true so =
              let other = other_key keys q k x.place (tells_is keys q x.place so) not_told in
              found_here keys q x new so
              ∙ sym (found_here keys q x old so)
              ∙ sym (ap (λ (b : Bool). if b then o else found_in keys q (x ∷ old)) other)
          go false isnt =
              found_later keys q x new isnt
              ∙ s.finds q
              ∙ ap (λ (f : Option Place). if key_eq q k then o else f) (sym (found_later keys q x old isnt))

  cut_here : (h : Held) (after : List Held) (k : Key) → AreKeptIn hash_of keys (h ∷ after) → keys h.place ≡ Some k
      → IsSetIn hash_of keys (h ∷ after) k None after
  cut_here h after k all is = record { kept = kept_tail keys h after all; finds = λ q. finds q (key_eq_tells q k) }
    where
      finds : (q : Key) → ((key_eq q k ≡ true) × (q ≡ k)) ⊎ ((key_eq q k ≡ false) × (q ≡ k → ⊥))
          → found_in keys q after ≡ (if key_eq q k then None else found_in keys q (h ∷ after))
      finds q (inl so) =
          all.apart.0 q (is ∙ ap (λ (x : Key). Some x) (sym so.1))
          ∙ sym (ap (λ (b : Bool). if b then None else found_in keys q (h ∷ after)) so.0)
      finds q (inr isnt) =
          sym (found_later keys q h after (tells_of keys q k h.place is ∙ isnt.0))
          ∙ sym (ap (λ (b : Bool). if b then None else found_in keys q (h ∷ after)) isnt.0)

  put_here : (h : Held) (after : List Held) (k : Key) → AreKeptIn hash_of keys after → keys h.place ≡ Some k
      → h.hash ≡ hash_of k → found_in keys k after ≡ None → IsSetIn hash_of keys after k (Some h.place) (h ∷ after)
  put_here h after k all is hash none = record { kept = kept_cons h after (k, is, hash) alone all; finds = finds }
    where
      alone : (q : Key) → keys h.place ≡ Some q → found_in keys q after ≡ None
      alone q at =
          let both : Some k ≡ Some q = sym is ∙ at in
          let same : k ≡ q = cc in
          subst (λ (x : Key). found_in keys x after ≡ None) same none

      finds : (q : Key) → found_in keys q (h ∷ after) ≡ (if key_eq q k then Some h.place else found_in keys q after)
      finds q = ap (λ (b : Bool). if b then Some h.place else found_in keys q after) (tells_of keys q k h.place is)

  -- a place is cut out
  pub cuts_out : (before after : List Held) (h : Held) (k : Key) → AreKeptIn hash_of keys (before ++ h ∷ after)
      → keys h.place ≡ Some k
      → IsSetIn hash_of keys (before ++ h ∷ after) k None (before ++ after)
  cuts_out [] after h k all is = cut_here h after k all is
  cuts_out (x ∷ before) after h k all is =
      set_behind x (before ++ h ∷ after) (before ++ after) k None all (not_first keys k x before after h all is)
      (cuts_out before after h k (kept_tail keys x _ all) is)

  -- a place of a key that has none is put among others
  pub puts_among : (before after : List Held) (h : Held) (k : Key) → AreKeptIn hash_of keys (before ++ after)
      → keys h.place ≡ Some k
      → h.hash ≡ hash_of k → found_in keys k (before ++ after) ≡ None
      → IsSetIn hash_of keys (before ++ after) k (Some h.place) (before ++ h ∷ after)
  puts_among [] after h k all is hash none = put_here h after k all is hash none
  puts_among (x ∷ before) after h k all is hash none =
      go (tells keys k x.place) refl (puts_among before after h k (kept_tail keys x _ all) is hash)
    where
      go : (t : Bool) → tells keys k x.place ≡ t
          → (found_in keys k (before ++ after) ≡ None → IsSetIn hash_of keys (before ++ after) k (Some h.place)
          (before ++ h ∷ after))
          → IsSetIn hash_of keys (x ∷ before ++ after) k (Some h.place) (x ∷ before ++ h ∷ after)
      go true so rest = let some = found_here keys k x (before ++ after) so in absurd (cc)
      go false isnt rest =
          set_behind x (before ++ after) (before ++ h ∷ after) k (Some h.place) all isnt
          (rest (sym (found_later keys k x (before ++ after) isnt) ∙ none))

  -- of two changes of one key the second counts
  pub set_then : (old mid new : List Held) (k : Key) (a b : Option Place) → IsSetIn hash_of keys old k a mid
      → IsSetIn hash_of keys mid k b new → IsSetIn hash_of keys old k b new
  set_then old mid new k a b first second = record {
    kept = second.kept;
    finds = λ q.
        second.finds q
        ∙ ap (λ (f : Option Place). if key_eq q k then b else f) (first.finds q)
        ∙ if_again (key_eq q k) a b (found_in keys q old);
  }

  -- what is cut out isn't found
  pub cut_none : (old new : List Held) (k : Key) → IsSetIn hash_of keys old k None new → found_in keys k new ≡ None
  cut_none old new k s = s.finds k ∙ ap (λ (b : Bool). if b then None else found_in keys k old) (key_itself k)

  -- a place is put in place of another
  pub puts_in_place : (before after : List Held) (h x : Held) (k : Key) → AreKeptIn hash_of keys (before ++ h ∷ after)
      → keys h.place ≡ Some k → keys x.place ≡ Some k → x.hash ≡ hash_of k
      → IsSetIn hash_of keys (before ++ h ∷ after) k (Some x.place) (before ++ x ∷ after)
  puts_in_place before after h x k all is at hash =
      let out = cuts_out before after h k all is in
      let none = cut_none (before ++ h ∷ after) (before ++ after) k out in
      set_then (before ++ h ∷ after) (before ++ after) (before ++ x ∷ after) k None (Some x.place) out
      (puts_among before after x k out.kept at hash none)
