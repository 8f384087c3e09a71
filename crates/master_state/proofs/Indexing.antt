-- An index leads to the same objects once images have grown, and to a new object once it is set to its place.
use Rattle.std.proofs.Common.{◌≡◌, ◌⊎◌, ℕ, inl, inr, List, [], ◌∷◌, ◌++◌, length, drop, refl, sym, ap, subst, ◌∙◌}
use Rattle.std.proofs.Common.{append_assoc}
use Rattle.std.specs.Prelude.{Option, Some, None}
use Rattle.std.specs.List.{AllByRecursion}
use Rattle.std.specs.Option.{option_map, option_and_then}
use Rattle.std.proofs.lemmas.Option.{same_Some}
use Rattle.entry.specs.declared.key.Key.{Key}
use Rattle.entry.specs.declared.entry.Object.{Object}
use Rattle.entry.specs.declared.entry.Entry.{Entry}
use Rattle.entry.specs.declared.entry.Entry.TheVariants as entry
use Rattle.entry.specs.Bag.{IsAmong}
use Rattle.entry.specs.Format.{IsEntry, spelling, front_of}
use Rattle.entry.specs.Meaning.{Versioned, Contents, object_at}
use Rattle.entry.specs.Text.{text_of}
use Rattle.entry.proofs.BagLemmas.{among_right}
use Rattle.entry.proofs.ListLemmas.{all_split}
use Rattle.entry.proofs.TextLemmas.{front_of-spelling}
use Rattle.segment.specs.Bytes.{standing_at}
use Rattle.segment.proofs.RowLemmas.{text_of-append}
use Rattle.places.specs.declared.place.Place.{Place}
use Rattle.places.specs.Law.{AreToldAgain}
use Rattle.places.specs.Map.{Places, found, AreKept, IsSet}
use Rattle.places.proofs.Words.{HasKey, all_then, each_told, found_again, kept_again}
use Rattle.versioned_map.specs.Versioned.{with_contents}
use Rattle.versioned_map.proofs.Keys.{key_eq-tells}
use Rattle.cleaner.specs.compactor.Places.{LiesAt, IsAtPlace, as_object, object_there, keys_in}
use Rattle.master_state.specs.Index.{LiesFound}

-- ---- what stands in images that grow

-- each image is one of these, with more at its end
abbrev pub Grow : (ℕ → List Entry) → (ℕ → List Entry) → Type 0
Grow images grown = (s : ℕ) → (more : List Entry) × (grown s ≡ images s ++ more)

stands_more : (image more : List Entry) (at : ℕ) (e : Entry) → LiesAt image at e → LiesAt (image ++ more) at e
stands_more image more at e s = record {
  before = s.before;
  after = s.after ++ more;
  split = rw s.split (append_assoc s.before (e ∷ s.after) more);
  offset = s.offset;
}

-- what stands in images stands there once they have grown
pub stands_grown : (images grown : ℕ → List Entry) (p : Place) (e : Entry) → Grow images grown → IsAtPlace images p e
    → IsAtPlace grown p e
stands_grown images grown p e g s =
    let longer = g p.segment in
    subst (λ (image : List Entry). LiesAt image p.at e) (sym longer.1)
    (stands_more (images p.segment) longer.0 p.at e s)

drop_front : (xs ys : List ℕ) → drop (length xs) (xs ++ ys) ≡ ys
drop_front [] ys = refl
drop_front (x ∷ xs) ys = drop_front xs ys

-- an entry that stands at an offset is read there
pub stands_at : (image : List Entry) (at : ℕ) (e : Entry) → AllByRecursion IsEntry image → LiesAt image at e
    → standing_at at (text_of image) ≡ Some e
stands_at image at e each s =
    let split = all_split IsEntry s.before (e ∷ s.after) (subst
    (λ (es : List Entry). AllByRecursion IsEntry es) s.split each) in
    let parts : text_of image ≡ text_of s.before ++ text_of (e ∷ s.after) =
    ap text_of s.split ∙ text_of-append s.before (e ∷ s.after) in
    let behind : drop at (text_of image) ≡ spelling e ++ text_of s.after =
    (λ i. drop (s.offset i) (parts i)) ∙ drop_front (text_of s.before) (text_of (e ∷ s.after)) in
    ap (λ (bytes : List ℕ). option_map (λ (front : Entry × ℕ). front.0) (front_of bytes)) behind
    ∙ ap (λ (front : Option (Entry × ℕ)). option_map (λ (f : Entry × ℕ). f.0) front)
    (front_of-spelling e (text_of s.after) split.1.0)

module _ (images : ℕ → List Entry) (each : (s : ℕ) → AllByRecursion IsEntry (images s)) where
  -- an object that lies at a place is seen there
  pub object_seen : (p : Place) (o : Object) → IsAtPlace images p (entry.Object o) → object_there images p ≡ Some o
  object_seen p o stands =
      ap (option_and_then as_object) (stands_at (images p.segment) p.at (entry.Object o) (each p.segment) stands)

  pub key_seen : (p : Place) (k : Key) (x : Versioned) → IsAtPlace images p (object_at k x) → keys_in images p ≡ Some k
  key_seen p k x stands =
      ap (λ (o : Option Object). option_map (λ (q : Object). q.key) o)
      (object_seen p (record { key = k; version = x.version; value = x.value }) stands)

-- ---- an index of images

-- the index leads to the objects of these contents, and to no other
pub record Indexes (images : ℕ → List Entry) (hs : Places) (contents : Contents) : Type 0 where
  pub kept : AreKept (keys_in images) hs
  pub lies : (k : Key) → LiesFound images k (found (keys_in images) k hs) (contents k)

-- what lies where the key is found
pub found_lies : (images : ℕ → List Entry) (k : Key) (f : Option Place) (x : Option Versioned) → LiesFound images k f x
    → (p : Place) → f ≡ Some p → (v : Versioned) × (x ≡ Some v) × IsAtPlace images p (object_at k v)
found_lies images k None x lies p is = absurd (cc)
found_lies images k (Some q) None lies p is = absurd lies
found_lies images k (Some q) (Some v) lies p is =
    (v, refl, subst (λ (r : Place). IsAtPlace images r (object_at k v)) (same_Some q p is) lies)

lies_grown : (images grown : ℕ → List Entry) (k : Key) (f : Option Place) (x : Option Versioned) → Grow images grown
    → LiesFound images k f x → LiesFound grown k f x
lies_grown images grown k None None g lies = tt
lies_grown images grown k None (Some x) g lies = absurd lies
lies_grown images grown k (Some p) None g lies = absurd lies
lies_grown images grown k (Some p) (Some x) g lies = stands_grown images grown p (object_at k x) g lies

module _ (images grown : ℕ → List Entry) (grow : Grow images grown) (each : (s : ℕ) → AllByRecursion IsEntry (grown s))
    (hs : Places) (contents : Contents) (index : Indexes images hs contents) where
  again : AreToldAgain (keys_in images) (keys_in grown) hs
  again =
      all_then (HasKey (keys_in images) hs) (λ (p : Place). keys_in grown p ≡ keys_in images p) hs
      (λ p at.
      let k = at.0 in
      let there = found_lies images k (found (keys_in images) k hs) (contents k) (index.lies k) p at.2 in
      key_seen grown each p k there.0 (stands_grown images grown p (object_at k there.0) grow there.2) ∙ sym at.1)
      (each_told (keys_in images) hs index.kept)

  pub kept_grown : AreKept (keys_in grown) hs
  kept_grown = kept_again (keys_in images) (keys_in grown) hs index.kept again

  pub found_grown : (q : Key) → found (keys_in grown) q hs ≡ found (keys_in images) q hs
  found_grown q = found_again (keys_in images) (keys_in grown) hs again q

  lies_still : (q : Key) → LiesFound grown q (found (keys_in grown) q hs) (contents q)
  lies_still q =
      subst (λ (f : Option Place). LiesFound grown q f (contents q)) (sym (found_grown q))
      (lies_grown images grown q (found (keys_in images) q hs) (contents q) grow (index.lies q))

  -- the index is as it was
  pub index_grown : Indexes grown hs contents
  index_grown = record { kept = kept_grown; lies = lies_still }

  -- the index is set for one key
  pub index_set : (new : Places) (k : Key) (f : Option Place) (x : Option Versioned) → LiesFound grown k f x
      → IsSet (keys_in grown) hs k f new → Indexes grown new (with_contents contents k x)
  index_set new k f x here set = record { kept = set.kept; lies = at } where
    at : (q : Key) → LiesFound grown q (found (keys_in grown) q new) (with_contents contents k x q)
    at q = elim (key_eq-tells q k) as (λ _. LiesFound grown q (found (keys_in grown) q new)
        (with_contents contents k x q)) [
          | inl t ↦ (
              let yes = t.0 in
              let place : found (keys_in grown) q new ≡ f = set.finds q ∙ (rw yes refl) in
              let has : with_contents contents k x q ≡ x = rw yes refl in
              subst (λ (g : Option Place). LiesFound grown q g (with_contents contents k x q)) (sym place)
              (subst (λ (y : Option Versioned). LiesFound grown q f y) (sym has)
              (subst (λ (r : Key). LiesFound grown r f x) (sym t.1) here)))
          | inr n ↦ (
              let no = n.0 in
              let place : found (keys_in grown) q new ≡ found (keys_in grown) q hs = set.finds q ∙ (rw no refl) in
              let has : with_contents contents k x q ≡ contents q = rw no refl in
              subst (λ (g : Option Place). LiesFound grown q g (with_contents contents k x q)) (sym place)
              (subst (λ (y : Option Versioned). LiesFound grown q (found (keys_in grown) q hs) y)
              (sym has) (lies_still q)))
        ]

-- ---- images that are fewer

-- each image is as it was, or had no object
abbrev pub Shed : (ℕ → List Entry) → (ℕ → List Entry) → Type 0
Shed images fewer = (s : ℕ) → (fewer s ≡ images s) ⊎ ((o : Object) → IsAmong (entry.Object o) (images s) → ⊥)

stands_shed : (images fewer : ℕ → List Entry) (p : Place) (k : Key) (x : Versioned) → Shed images fewer
    → IsAtPlace images p (object_at k x) → IsAtPlace fewer p (object_at k x)
stands_shed images fewer p k x g stands = elim (g p.segment) [
  | inl same ↦ subst (λ (image : List Entry). LiesAt image p.at (object_at k x)) (sym same) stands
  | inr none ↦ absurd (none (record { key = k; version = x.version; value = x.value })
      (subst (λ (image : List Entry). IsAmong (object_at k x) image) (sym stands.split)
      (among_right (object_at k x) stands.before (object_at k x ∷ stands.after) (inl refl))))
]

lies_shed : (images fewer : ℕ → List Entry) (k : Key) (f : Option Place) (x : Option Versioned) → Shed images fewer
    → LiesFound images k f x → LiesFound fewer k f x
lies_shed images fewer k None None g lies = tt
lies_shed images fewer k None (Some x) g lies = absurd lies
lies_shed images fewer k (Some p) None g lies = absurd lies
lies_shed images fewer k (Some p) (Some x) g lies = stands_shed images fewer p k x g lies

module _ (images fewer : ℕ → List Entry) (shed : Shed images fewer) (each : (s : ℕ) → AllByRecursion IsEntry (fewer s))
    (hs : Places) (contents : Contents) (index : Indexes images hs contents) where
  told_shed : AreToldAgain (keys_in images) (keys_in fewer) hs
  told_shed =
      all_then (HasKey (keys_in images) hs) (λ (p : Place). keys_in fewer p ≡ keys_in images p) hs
      (λ p at.
      let k = at.0 in
      let there = found_lies images k (found (keys_in images) k hs) (contents k) (index.lies k) p at.2 in
      key_seen fewer each p k there.0 (stands_shed images fewer p k there.0 shed there.2) ∙ sym at.1)
      (each_told (keys_in images) hs index.kept)

  pub found_shed : (q : Key) → found (keys_in fewer) q hs ≡ found (keys_in images) q hs
  found_shed q = found_again (keys_in images) (keys_in fewer) hs told_shed q

  pub index_shed : Indexes fewer hs contents
  index_shed = record {
    kept = kept_again (keys_in images) (keys_in fewer) hs index.kept told_shed;
    lies = λ q. subst (λ (f : Option Place). LiesFound fewer q f (contents q)) (sym (found_shed q))
        (lies_shed images fewer q (found (keys_in images) q hs) (contents q) shed (index.lies q));
  }
