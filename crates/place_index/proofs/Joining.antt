-- Two lists of places as one list: where a key is found, and what a change of one of the two lists does.
use Rattle.std.proofs.Common.{◌≡◌, ℕ, suc, ◌+◌, ◌<◌, Bool, true, false, List, [], ◌∷◌, ◌++◌, length, get_or, take, drop}
use Rattle.std.proofs.Common.{length-append, append_assoc, refl, sym, ap, subst, ◌∙◌, arith, if◌then◌else◌}
use Rattle.std.specs.Prelude.{Option, Some, None}
use Rattle.std.specs.List.{remove}
use Rattle.std.specs.Option.{option_or}
use Rattle.std.proofs.Math.Seq.{split_at}
use Rattle.std.proofs.lemmas.List.{take_more}
use Rattle.entry.specs.declared.key.Key.{Key}
use Rattle.entry.proofs.ListLemmas.{all_append, all_split}
use Rattle.places.specs.declared.place.Place.{Place}
use Rattle.places.specs.declared.place.Held.{Held}
use Rattle.place_index.specs.Steps.{IsShuffled}
use Rattle.places.proofs.Finding.{tells_is, tells_from, found_here, found_later, kept_tail}
use Rattle.places.specs.Lists.{AreApart, AreKeptIn, IsSameMapIn, IsTold, found_in, tells}

or_if : (t : Bool) (p : Place) (a b : Option Place) → (if t then Some p else option_or a b)
    ≡ option_or (if t then Some p else a) b
or_if true p a b = refl
or_if false p a b = refl

or_none : (o : Option Place) → option_or o None ≡ o
or_none None = refl
or_none (Some p) = refl

or_first : (a b : Option Place) → option_or a b ≡ None → a ≡ None
or_first None b e = refl
or_first (Some p) b e = absurd (cc)

or_second : (a b : Option Place) → option_or a b ≡ None → b ≡ None
or_second None b e = e
or_second (Some p) b e = absurd (cc)

or_turned : (a b : Option Place) → ((p : Place) → a ≡ Some p → b ≡ None) → option_or b a ≡ option_or a b
or_turned None b alone = or_none b
or_turned (Some p) b alone = ap (λ (o : Option Place). option_or o (Some p)) (alone p refl)

absent_turned : (a b : Option Place) → ((p : Place) → a ≡ Some p → b ≡ None) → (r : Place) → b ≡ Some r → a ≡ None
absent_turned None b alone r is = refl
absent_turned (Some p) b alone r is = let none = alone p refl in absurd (cc)

module _ (keys : Place → Option Key) where
  pub found_append : (k : Key) (xs ys : List Held) → found_in keys k (xs ++ ys)
      ≡ option_or (found_in keys k xs) (found_in keys k ys)
  found_append k [] ys = refl
  found_append k (h ∷ xs) ys =
      ap (λ (o : Option Place). if tells keys k h.place then Some h.place else o) (found_append k xs ys)
      ∙ or_if (tells keys k h.place) h.place (found_in keys k xs) (found_in keys k ys)

  pub none_left : (k : Key) (xs ys : List Held) → found_in keys k (xs ++ ys) ≡ None → found_in keys k xs ≡ None
  none_left k xs ys none = or_first (found_in keys k xs) (found_in keys k ys) (sym (found_append k xs ys) ∙ none)

  pub none_right : (k : Key) (xs ys : List Held) → found_in keys k (xs ++ ys) ≡ None → found_in keys k ys ≡ None
  none_right k xs ys none = or_second (found_in keys k xs) (found_in keys k ys) (sym (found_append k xs ys) ∙ none)

  -- where the first list has no place for the key
  pub found_right : (k : Key) (xs ys : List Held) → found_in keys k xs ≡ None
      → found_in keys k (xs ++ ys) ≡ found_in keys k ys
  found_right k xs ys none = found_append k xs ys ∙ ap (λ (o : Option Place). option_or o (found_in keys k ys)) none

  -- where the second has none
  pub found_left : (k : Key) (xs ys : List Held) → found_in keys k ys ≡ None
      → found_in keys k (xs ++ ys) ≡ found_in keys k xs
  found_left k xs ys none =
      found_append k xs ys
      ∙ ap (λ (o : Option Place). option_or (found_in keys k xs) o) none
      ∙ or_none (found_in keys k xs)

  apart_left : (xs ys : List Held) → AreApart keys (xs ++ ys) → AreApart keys xs
  apart_left [] ys apart = tt
  apart_left (h ∷ xs) ys apart = (λ k is. none_left k xs ys (apart.0 k is), apart_left xs ys apart.1)

  pub kept_left : {hash_of : Key → ℕ} → (xs ys : List Held) → AreKeptIn hash_of keys (xs ++ ys)
      → AreKeptIn hash_of keys xs
  kept_left xs ys all = record {
    told = (all_split (IsTold _ keys) xs ys all.told).0;
    apart = apart_left xs ys all.apart;
  }

  pub kept_right : {hash_of : Key → ℕ} → (xs ys : List Held) → AreKeptIn hash_of keys (xs ++ ys)
      → AreKeptIn hash_of keys ys
  kept_right [] ys all = all
  kept_right (h ∷ xs) ys all = kept_right xs ys (kept_tail keys h (xs ++ ys) all)

  -- a key of the first list has no place in the second
  pub kept_across : {hash_of : Key → ℕ} → (k : Key) (p : Place) (xs ys : List Held)
      → AreKeptIn hash_of keys (xs ++ ys) → found_in keys k xs ≡ Some p
      → found_in keys k ys ≡ None
  kept_across k p [] ys all is = absurd (cc)
  kept_across k p (h ∷ xs) ys all is = go (tells keys k h.place) refl
      (kept_across k p xs ys (kept_tail keys h (xs ++ ys) all))
    where
      go : (t : Bool) → tells keys k h.place ≡ t → (found_in keys k xs ≡ Some p → found_in keys k ys ≡ None)
          → found_in keys k ys ≡ None
      go true so rest = none_right k xs ys (all.apart.0 k (tells_is keys k h.place so))
      go false isnt rest = rest (sym (found_later keys k h xs isnt) ∙ is)

  AreAcross : List Held → List Held → Type 0
  AreAcross xs ys = (k : Key) (p : Place) → found_in keys k xs ≡ Some p → found_in keys k ys ≡ None

  across_tail : (h : Held) (xs ys : List Held) → AreAcross (h ∷ xs) ys → AreAcross xs ys
  unfolding AreAcross
  across_tail h xs ys across k p is = go (tells keys k h.place) refl
    where
      go : (t : Bool) → tells keys k h.place ≡ t → found_in keys k ys ≡ None
      go true so = across k h.place (found_here keys k h xs so)
      go false isnt = across k p (found_later keys k h xs isnt ∙ is)

  apart_join : (xs ys : List Held) → AreApart keys xs → AreApart keys ys → AreAcross xs ys → AreApart keys (xs ++ ys)
  unfolding AreAcross
  apart_join [] ys first second across = second
  apart_join (h ∷ xs) ys first second across = (alone, apart_join xs ys first.1 second (across_tail h xs ys across))
    where
      alone : (k : Key) → keys h.place ≡ Some k → found_in keys k (xs ++ ys) ≡ None
      alone k is =
          found_right k xs ys (first.0 k is)
          ∙ across k h.place (found_here keys k h xs (tells_from keys k h.place is))

  pub kept_join : {hash_of : Key → ℕ} → (xs ys : List Held) → AreKeptIn hash_of keys xs → AreKeptIn hash_of keys ys
      → ((k : Key) (p : Place) → found_in keys k xs ≡ Some p → found_in keys k ys ≡ None)
      → AreKeptIn hash_of keys (xs ++ ys)
  unfolding AreAcross
  kept_join xs ys first second across = record {
    told = all_append (IsTold _ keys) xs ys first.told second.told;
    apart = apart_join xs ys first.apart second.apart across;
  }

  same_left : {hash_of : Key → ℕ} → (xs new ys : List Held) → IsSameMapIn hash_of keys xs new
      → AreKeptIn hash_of keys (xs ++ ys)
      → IsSameMapIn hash_of keys (xs ++ ys) (new ++ ys)
  same_left xs new ys s all = record {
    kept = kept_join new ys s.kept (kept_right xs ys all) (λ q p is. kept_across q p xs ys all (sym (s.finds q) ∙ is));
    finds = λ q.
        found_append q new ys
        ∙ ap (λ (f : Option Place). option_or f (found_in keys q ys)) (s.finds q)
        ∙ sym (found_append q xs ys);
  }

  same_right : {hash_of : Key → ℕ} → (xs ys new : List Held) → IsSameMapIn hash_of keys ys new
      → AreKeptIn hash_of keys (xs ++ ys)
      → IsSameMapIn hash_of keys (xs ++ ys) (xs ++ new)
  same_right xs ys new s all = record {
    kept = kept_join xs new (kept_left xs ys all) s.kept (λ q p is. s.finds q ∙ kept_across q p xs ys all is);
    finds = λ q.
        found_append q xs new
        ∙ ap (λ (f : Option Place). option_or (found_in keys q xs) f) (s.finds q)
        ∙ sym (found_append q xs ys);
  }

  same_turned : {hash_of : Key → ℕ} → (xs ys : List Held) → AreKeptIn hash_of keys (xs ++ ys)
      → IsSameMapIn hash_of keys (xs ++ ys) (ys ++ xs)
  same_turned xs ys all = record {
    kept = kept_join ys xs (kept_right xs ys all) (kept_left xs ys all)
        (λ q p is. absent_turned (found_in keys q xs) (found_in keys q ys) (λ r at. kept_across q r xs ys all at) p is);
    finds = λ q.
        found_append q ys xs
        ∙ or_turned (found_in keys q xs) (found_in keys q ys) (λ r at. kept_across q r xs ys all at)
        ∙ sym (found_append q xs ys);
  }

-- ---- places in another order

pub shuffled_itself : (xs : List Held) → IsShuffled xs xs
shuffled_itself xs = record { same = λ hash_of keys all. record { kept = all; finds = λ q. refl }; len = refl }

pub shuffled_then : (xs mid new : List Held) → IsShuffled xs mid → IsShuffled mid new → IsShuffled xs new
shuffled_then xs mid new first second = record {
  same = λ hash_of keys all.
      let one = first.same hash_of keys all in
      let two = second.same hash_of keys one.kept in
      record { kept = two.kept; finds = λ q. two.finds q ∙ one.finds q };
  len = second.len ∙ first.len;
}

pub shuffled_left : (xs new ys : List Held) → IsShuffled xs new → IsShuffled (xs ++ ys) (new ++ ys)
shuffled_left xs new ys s = record {
  same = λ hash_of keys all. same_left keys xs new ys (s.same hash_of keys (kept_left keys xs ys all)) all;
  len = omega (arith, length-append new ys, length-append xs ys, s.len);
}

pub shuffled_right : (xs ys new : List Held) → IsShuffled ys new → IsShuffled (xs ++ ys) (xs ++ new)
shuffled_right xs ys new s = record {
  same = λ hash_of keys all. same_right keys xs ys new (s.same hash_of keys (kept_right keys xs ys all)) all;
  len = omega (arith, length-append xs new, length-append xs ys, s.len);
}

pub shuffled_turned : (xs ys : List Held) → IsShuffled (xs ++ ys) (ys ++ xs)
shuffled_turned xs ys = record {
  same = λ hash_of keys all. same_turned keys xs ys all;
  len = omega (arith, length-append xs ys, length-append ys xs);
}

-- one more of a list
pub shuffled_more : (start all mid new : List Held) (i : ℕ) (d : Held) → i < length all
    → IsShuffled (start ++ take i all) mid → IsShuffled (mid ++ get_or all i d ∷ []) new
    → IsShuffled (start ++ take (i + 1) all) new
shuffled_more start all mid new i d below before one =
    let h = get_or all i d in
    let same : start ++ take (i + 1) all ≡ (start ++ take i all) ++ h ∷ [] =
    ap (λ (xs : List Held). start ++ xs) (take_more all i d below) ∙ sym (append_assoc start (take i all) (h ∷ [])) in
    subst (λ (xs : List Held). IsShuffled xs new) (sym same)
    (shuffled_then ((start ++ take i all) ++ h ∷ []) (mid ++ h ∷ []) new
    (shuffled_left (start ++ take i all) mid (h ∷ []) before) one)

-- a place goes from the one list to the other
pub shuffled_over : (table new waiting : List Held) (i : ℕ) (d : Held) → i < length waiting
    → IsShuffled (table ++ get_or waiting i d ∷ []) new → IsShuffled (table ++ waiting) (new ++ remove waiting i)
shuffled_over table new waiting i d below one =
    let h = get_or waiting i d in
    let before = take i waiting in
    let after = drop (suc i) waiting in
    let front : IsShuffled (before ++ h ∷ after) (h ∷ before ++ after) =
    subst (λ (xs : List Held). IsShuffled xs (h ∷ before ++ after)) (append_assoc before (h ∷ []) after)
    (shuffled_left (before ++ h ∷ []) (h ∷ before) after (shuffled_turned before (h ∷ []))) in
    let turned = subst (λ (xs : List Held). IsShuffled xs (h ∷ before ++ after))
    (sym (split_at waiting i d below)) front in
    let moved = subst (λ (xs : List Held). IsShuffled (table ++ waiting) xs)
    (sym (append_assoc table (h ∷ []) (before ++ after)))
    (shuffled_right table waiting (h ∷ before ++ after) turned) in
    shuffled_then (table ++ waiting) ((table ++ h ∷ []) ++ (before ++ after)) (new ++ (before ++ after)) moved
    (shuffled_left (table ++ h ∷ []) new (before ++ after) one)
