-- The places that a pass treats, and the entries that lie there.
use Rattle.std.proofs.Common.{◌≡◌, ℕ, ◌+◌, Bool, true, false, cond, List, [], ◌∷◌, ◌++◌, length, refl, sym, ap, subst}
use Rattle.std.proofs.Common.{◌∙◌, inl, inr, arith}
use Rattle.std.specs.Prelude.{◌⊎◌, ◌||◌, ◌==◌}
use Rattle.entry.specs.declared.entry.Entry.{Entry}
use Rattle.entry.specs.Bag.{IsAmong}
use Rattle.entry.specs.Format.{spelling}
use Rattle.entry.specs.Text.{text_of, is_data}
use Rattle.entry.proofs.BagLemmas.{among_left, among_right, among_either}
use Rattle.places.specs.declared.place.Place.{Place}
use Rattle.compactor.specs.Kept.{has_id}
use Rattle.compactor.specs.Places.{LiesAt, IsAtPlace}
use Rattle.cleaner.specs.Passes.{places_from, places_of}
use Rattle.entry.proofs.TextLemmas.{length_first}

-- ---- of one segment

-- An object or a tombstone is at the place, among the entries of a segment of which the first begins at an offset.
pub record StandsFrom (s at : ℕ) (es : List Entry) (p : Place) : Type 0 where
  pub entry : Entry
  pub before : List Entry
  pub after : List Entry
  pub of_data : is_data entry ≡ true
  pub split : es ≡ before ++ entry ∷ after
  pub segment : p.segment ≡ s
  pub offset : p.at ≡ at + length (text_of before)

pub from_stands : (s at : ℕ) (es : List Entry) (p : Place) → IsAmong p (places_from s at es) → StandsFrom s at es p
from_stands s at [] p m = absurd m
from_stands s at (e ∷ es) p m = go (is_data e) refl m (from_stands s (at + length (spelling e)) es p)
  where
    behind : StandsFrom s (at + length (spelling e)) es p → StandsFrom s at (e ∷ es) p
    behind there = record {
      entry = there.entry;
      before = e ∷ there.before;
      after = there.after;
      of_data = there.of_data;
      split = ap (λ (xs : List Entry). e ∷ xs) there.split;
      segment = there.segment;
      offset = (let own = there.offset in let more = length_first e there.before in omega arith);
    }

    go : (b : Bool) → is_data e ≡ b
        → IsAmong p (cond b (record { segment = s; at = at } ∷ places_from s (at + length (spelling e)) es)
        (places_from s (at + length (spelling e)) es))
        → (IsAmong p (places_from s (at + length (spelling e)) es) → StandsFrom s (at + length (spelling e)) es p)
        → StandsFrom s at (e ∷ es) p
    go true is (inl same) later = record {
      entry = e;
      before = [];
      after = es;
      of_data = is;
      split = refl;
      segment = sym (ap (λ (q : Place). q.segment) same);
      offset = (let own = ap (λ (q : Place). q.at) same in omega arith);
    }
    go true is (inr there) later = behind (later there)
    go false is there later = behind (later there)

pub stands_from : (s at : ℕ) (before after : List Entry) (e : Entry) → is_data e ≡ true
    → IsAmong (record { segment = s; at = at + length (text_of before) }) (places_from s at (before ++ e ∷ after))
stands_from s at [] after e is = rw is (inl (λ i. record { segment = s; at = here i })) where
  here : at ≡ at + 0
  here = omega arith
stands_from s at (x ∷ xs) after e is = go (is_data x) (stands_from s (at + length (spelling x)) xs after e is)
  where
    rest : List Place
    rest = places_from s (at + length (spelling x)) (xs ++ e ∷ after)

    same : (at + length (spelling x)) + length (text_of xs) ≡ at + length (text_of (x ∷ xs))
    same = let more = length_first x xs in omega arith

    go : (b : Bool) → IsAmong (record { segment = s; at = (at + length (spelling x)) + length (text_of xs) }) rest
        → IsAmong (record { segment = s; at = at + length (text_of (x ∷ xs)) })
        (cond b (record { segment = s; at = at } ∷ rest) rest)
    go true m = inr (subst (λ (n : ℕ). IsAmong (record { segment = s; at = n }) rest) same m)
    go false m = subst (λ (n : ℕ). IsAmong (record { segment = s; at = n }) rest) same m

-- ---- of several

module _ (images : ℕ → List Entry) where
  -- an object or a tombstone lies at the place
  pub record LiesThere (ids : List ℕ) (p : Place) : Type 0 where
    pub entry : Entry
    pub of_data : is_data entry ≡ true
    pub among : IsAmong p.segment ids
    pub lies : IsAtPlace images p entry

  pub places_lie : (ids : List ℕ) (p : Place) → IsAmong p (places_of images ids) → LiesThere ids p
  places_lie [] p m = absurd m
  places_lie (s ∷ ids) p m = go (among_either p (places_from s 0 (images s)) (places_of images ids) m)
      (places_lie ids p)
    where
      go : IsAmong p (places_from s 0 (images s)) ⊎ IsAmong p (places_of images ids)
          → (IsAmong p (places_of images ids) → LiesThere ids p)
          → LiesThere (s ∷ ids) p
      go (inl here) later =
          let there = from_stands s 0 (images s) p here in
          record {
            entry = there.entry;
            of_data = there.of_data;
            among = inl (sym there.segment);
            lies = record {
              before = there.before;
              after = there.after;
              split = ap images there.segment ∙ there.split;
              offset = (let own = there.offset in omega arith);
            };
          }
      go (inr behind) later =
          let there = later behind in
          record { entry = there.entry; of_data = there.of_data; among = inr there.among; lies = there.lies }

  pub lying_place : (ids : List ℕ) (p : Place) (e : Entry) → IsAmong p.segment ids → IsAtPlace images p e
      → is_data e ≡ true
      → IsAmong p (places_of images ids)
  lying_place [] p e m lies is = absurd m
  lying_place (s ∷ ids) p e (inl same) lies is =
      among_left p (places_from s 0 (images s)) (places_of images ids)
      (subst (λ (es : List Entry). IsAmong p (places_from s 0 es)) (sym (ap images same ∙ lies.split))
      (subst (λ (q : Place). IsAmong q (places_from s 0 (lies.before ++ e ∷ lies.after))) here
      (stands_from s 0 lies.before lies.after e is)))
    where
      at_is : 0 + length (text_of lies.before) ≡ p.at
      at_is = let own = lies.offset in omega arith

      here : record { segment = s; at = 0 + length (text_of lies.before) } ≡ p
      here = λ i. record { segment = same i; at = at_is i }
  lying_place (s ∷ ids) p e (inr m) lies is =
      among_right p (places_from s 0 (images s)) (places_of images ids) (lying_place ids p e m lies is)

-- what lies at a place is among the image
pub lies_among : (es : List Entry) (at : ℕ) (e : Entry) → LiesAt es at e → IsAmong e es
lies_among es at e lies =
    subst (λ (xs : List Entry). IsAmong e xs) (sym lies.split) (among_right e lies.before (e ∷ lies.after) (inl refl))

-- ---- ids with one more

-- an id that is there once another came is there before, if it isn't that one
pub has_before : (ids more : List ℕ) (new z : ℕ) → (new == z) ≡ false
    → has_id ((ids ++ new ∷ []) ++ more) z ≡ has_id (ids ++ more) z
has_before [] more new z away = rw away refl
has_before (x ∷ ids) more new z away = ap (λ (b : Bool). (x == z) || b) (has_before ids more new z away)
