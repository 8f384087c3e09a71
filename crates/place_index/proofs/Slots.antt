-- The slot that a walk finds for a key, and the place at which the key is found.
use Rattle.std.proofs.Common.{◌≡◌, ℕ, suc, ◌+◌, ◌<◌, ◌≤◌, Bool, true, false, ◌&&◌, ◌==◌, not, cond, List, [], ◌∷◌, ◌++◌}
use Rattle.std.proofs.Common.{length, get_or, take, drop, ltb-false, refl, sym, ap, subst, ◌∙◌, arith}
use Rattle.std.specs.Prelude.{Option, Some, None, nat_lt}
use Rattle.std.specs.List.{AllByRecursion, position, position_or_len}
use Rattle.std.proofs.Math.Seq.{split_at}
use Rattle.std.proofs.lemmas.List.Quantifiers.{position-Some}
use Rattle.std.proofs.lemmas.Bool.Decides.{Decides-eqb}
use Rattle.entry.specs.declared.key.Key.{Key}
use Rattle.places.specs.declared.place.Place.{Place}
use Rattle.places.specs.declared.place.Held.{Held}
use Rattle.places.proofs.Finding.{tells_is, found_later, found_at}
use Rattle.places.specs.Lists.{AreKeptIn, IsCandidateIn, IsTold, found_in, has_hash, is_of, tells}

and_second : (a b : Bool) → (a && b) ≡ true → b ≡ true
and_second true b e = e
and_second false b e = absurd (cc)

and_true : (a b : Bool) → a ≡ true → (a && b) ≡ b
and_true a b so = ap (λ (t : Bool). t && b) so

pub past_tail : {X : Type 0} (p : X → Bool) (x : X) (xs : List X) → p x ≡ false
    → length (x ∷ xs) ≤ position_or_len p (x ∷ xs) → length xs ≤ position_or_len p xs
past_tail p x xs isnt past =
    let more : position_or_len p (x ∷ xs) ≡ 1 + position_or_len p xs =
    ap (λ (b : Bool). cond (not b) (1 + position_or_len p xs) 0) isnt in
    omega arith

pub not_met : {X : Type 0} (p : X → Bool) (x : X) (xs : List X)
    → length (x ∷ xs) ≤ position_or_len p (x ∷ xs) → p x ≡ false
not_met p x xs past = go (p x) refl
  where
    go : (t : Bool) → p x ≡ t → p x ≡ false
    go true so =
        let met : position_or_len p (x ∷ xs) ≡ 0 =
        ap (λ (b : Bool). cond (not b) (1 + position_or_len p xs) 0) so in
        absurd (omega arith)
    go false isnt = isnt

pub past_none : {X : Type 0} (p : X → Bool) (xs : List X) → position p xs ≡ None → length xs ≤ position_or_len p xs
past_none p xs none = go (nat_lt (position_or_len p xs) (length xs)) refl
  where
    go : (t : Bool) → nat_lt (position_or_len p xs) (length xs) ≡ t → length xs ≤ position_or_len p xs
    go true so =
        let some : position p xs ≡ Some (position_or_len p xs) =
        ap (λ (b : Bool). cond b (Some (position_or_len p xs)) None) so in
        absurd (cc)
    go false isnt = ltb-false (position_or_len p xs) (length xs) isnt

-- what a walk by the hash over a copy of the list finds
pub first_along : (hash : ℕ) (xs hs : List Held) (o : Option ℕ) → o ≡ position (has_hash hash) xs → xs ≡ hs
    → position (has_hash hash) hs ≡ o
first_along hash xs hs o found same = ap (λ (l : List Held). position (has_hash hash) l) (sym same) ∙ sym found

module _ (keys : Place → Option Key) (k : Key) (hash : ℕ) where
  -- what a walk over a copy of the list finds
  pub along : (xs hs : List Held) (o : Option ℕ) → o ≡ position (is_of keys k hash) xs → xs ≡ hs
      → position (is_of keys k hash) hs ≡ o
  along xs hs o found same = ap (λ (l : List Held). position (is_of keys k hash) l) (sym same) ∙ sym found

  pub slot_below : (hs : List Held) (i : ℕ) (d : Held) → position (is_of keys k hash) hs ≡ Some i → i < length hs
  slot_below hs i d some = (position-Some (is_of keys k hash) hs i d some).0

  -- at the slot that the walk finds the key stands
  pub slot_some : (hs : List Held) (i : ℕ) (d : Held) → position (is_of keys k hash) hs ≡ Some i
      → keys (get_or hs i d).place ≡ Some k
  slot_some hs i d some =
      let h = get_or hs i d in
      tells_is keys k h.place (and_second (h.hash == hash) (tells keys k h.place)
      (position-Some (is_of keys k hash) hs i d some).1)

  pub slot_split : (hs : List Held) (i : ℕ) (d : Held) → position (is_of keys k hash) hs ≡ Some i
      → hs ≡ take i hs ++ get_or hs i d ∷ drop (suc i) hs
  slot_split hs i d some = split_at hs i d (slot_below hs i d some)

  -- another list in which the key is found as in this one has the same candidate
  pub candidate_same : (xs ys : List Held) (o : Option Place) → found_in keys k ys ≡ found_in keys k xs
      → IsCandidateIn keys k xs o → IsCandidateIn keys k ys o
  candidate_same xs ys None same is = same ∙ is
  candidate_same xs ys (Some p) same is = λ there. same ∙ is there

module _ (hash_of : Key → ℕ) (keys : Place → Option Key) (k : Key) (hash : ℕ) where
  -- the hash hides no place of the key
  pub test_told : (h : Held) → hash ≡ hash_of k → IsTold hash_of keys h → is_of keys k hash h ≡ false
      → tells keys k h.place ≡ false
  test_told h of told isnt = go (tells keys k h.place) refl
    where
      go : (t : Bool) → tells keys k h.place ≡ t → tells keys k h.place ≡ false
      go true so =
          let both : Some told.0 ≡ Some k = sym told.1 ∙ tells_is keys k h.place so in
          let same : told.0 ≡ k = cc in
          let hashes : h.hash ≡ hash = told.2 ∙ ap (λ (x : Key). hash_of x) same ∙ sym of in
          let is : is_of keys k hash h ≡ tells keys k h.place =
          and_true (h.hash == hash) (tells keys k h.place) ((Decides-eqb h.hash hash).1 hashes) in
          absurd (cc)
      go false not = not

  none_past : (hs : List Held) → hash ≡ hash_of k → AllByRecursion (IsTold hash_of keys) hs
      → length hs ≤ position_or_len (is_of keys k hash) hs → found_in keys k hs ≡ None
  none_past [] of told past = refl
  none_past (h ∷ hs) of told past =
      let isnt = not_met (is_of keys k hash) h hs past in
      found_later keys k h hs (test_told h of told.0 isnt)
      ∙ none_past hs of told.1 (past_tail (is_of keys k hash) h hs isnt past)

  -- where the walk finds no slot the key has no place
  pub slot_none : (hs : List Held) → hash ≡ hash_of k → AllByRecursion (IsTold hash_of keys) hs
      → position (is_of keys k hash) hs ≡ None → found_in keys k hs ≡ None
  slot_none hs of told none = none_past hs of told (past_none (is_of keys k hash) hs none)

  pub found_slot : (hs : List Held) (i : ℕ) (d : Held) → position (is_of keys k hash) hs ≡ Some i
      → AreKeptIn hash_of keys hs
      → found_in keys k hs ≡ Some (get_or hs i d).place
  found_slot hs i d some all =
      let parts = slot_split keys k hash hs i d some in
      ap (λ (xs : List Held). found_in keys k xs) parts
      ∙ found_at keys k (take i hs) (drop (suc i) hs) (get_or hs i d)
      (subst (λ (xs : List Held). AreKeptIn hash_of keys xs) parts all) (slot_some keys k hash hs i d some)

  -- ---- the first place with the hash

  past_first : (hs : List Held) → hash ≡ hash_of k → AllByRecursion (IsTold hash_of keys) hs
      → length hs ≤ position_or_len (has_hash hash) hs → found_in keys k hs ≡ None
  past_first [] of told past = refl
  past_first (h ∷ hs) of told past =
      let isnt = not_met (has_hash hash) h hs past in
      found_later keys k h hs (test_told h of told.0 (ap (λ (b : Bool). b && tells keys k h.place) isnt))
      ∙ past_first hs of told.1 (past_tail (has_hash hash) h hs isnt past)

  -- where no place has the hash the key has none
  pub first_none : (hs : List Held) → hash ≡ hash_of k → AllByRecursion (IsTold hash_of keys) hs
      → position (has_hash hash) hs ≡ None → found_in keys k hs ≡ None
  first_none hs of told none = past_first hs of told (past_none (has_hash hash) hs none)

  -- a key that stands at the first is found there
  pub first_some : (hs : List Held) (i : ℕ) (d : Held) → position (has_hash hash) hs ≡ Some i
      → AreKeptIn hash_of keys hs
      → keys (get_or hs i d).place ≡ Some k → found_in keys k hs ≡ Some (get_or hs i d).place
  first_some hs i d some all is =
      let parts = split_at hs i d (position-Some (has_hash hash) hs i d some).0 in
      ap (λ (xs : List Held). found_in keys k xs) parts
      ∙ found_at keys k (take i hs) (drop (suc i) hs) (get_or hs i d)
      (subst (λ (xs : List Held). AreKeptIn hash_of keys xs) parts all) is
