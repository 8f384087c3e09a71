-- The live objects of some images are the objects of a map, each listed once, if the index leads to them.
use Rattle.std.proofs.Common.{◌≡◌, ℕ, ◌+◌, ◌<◌, ◌≤◌, Bool, true, false, List, [], ◌∷◌, ◌++◌, length, refl, sym}
use Rattle.std.proofs.Common.{ap, subst, ◌∙◌, ◌⊎◌, inl, inr, append_assoc, arith}
use Rattle.std.specs.Prelude.{Option, Some, None, if◌then◌else◌}
use Rattle.std.specs.List.{AllByRecursion}
use Rattle.std.specs.Option.{option_to_list}
use Rattle.std.proofs.lemmas.Option.{same_Some}
use Rattle.std.proofs.lemmas.List.{length-append, append-nil}
use Rattle.entry.specs.declared.key.Key.{Key}
use Rattle.entry.specs.declared.entry.Object.{Object}
use Rattle.entry.specs.declared.entry.Entry.{Entry}
use Rattle.entry.specs.declared.entry.Entry.TheVariants as entry
use Rattle.entry.specs.Bag.{IsAmong}
use Rattle.entry.specs.Format.{IsEntry, spelling}
use Rattle.entry.specs.Meaning.{Versioned, Contents, versioned, object_at, contents_of}
use Rattle.entry.specs.Text.{text_of}
use Rattle.entry.proofs.BagLemmas.{among_left, among_right, among_either}
use Rattle.entry.proofs.KeyOrder.{key_eq_tells}
use Rattle.entry.proofs.TextLemmas.{spelling-some}
use Rattle.segment.proofs.RowLemmas.{text_of-append}
use Rattle.places.specs.declared.place.Place.{Place}
use Rattle.places.specs.Map.{Places, found}
use Rattle.places.specs.Relocation.{names}
use Rattle.places.proofs.Words.{named_found, found_named}
use Rattle.images.specs.Image.{Image}
use Rattle.compactor.specs.Places.{LiesAt, IsAtPlace, object_there, keys_in}
use Rattle.master_state.specs.Index.{LiesFound}
use Rattle.master_state.specs.Sizes.{AreOnce, live_at, live_from, live_closed}
use Rattle.master_state.proofs.Imaging.{ids_in}
use Rattle.master_state.proofs.Indexing.{Indexes, found_lies, object_seen, key_seen}
use Rattle.master_state.proofs.Rising.{Rise}

-- ---- lists of objects

-- no object of the list has the key
abbrev pub IsAway : Key → List Object → Type 0
IsAway k os = (o : Object) → IsAmong o os → o.key ≡ k → ⊥

-- either an object of the list has the key, or none
pub key_among : (os : List Object) (k : Key) → ((o : Object) × IsAmong o os × (o.key ≡ k)
    × (contents_of os k ≡ Some (versioned o)))
    ⊎ (IsAway k os × (contents_of os k ≡ None))
key_among [] k = inr (λ o m same. m, refl)
key_among (o ∷ os) k = elim (key_eq_tells k o.key)
    as (λ _. ((q : Object) × IsAmong q (o ∷ os) × (q.key ≡ k) × (contents_of (o ∷ os) k ≡ Some (versioned q)))
    ⊎ (IsAway k (o ∷ os) × (contents_of (o ∷ os) k ≡ None))) [
      | inl t ↦ (let yes = t.0 in inl (o, inl refl, sym t.1, rw yes refl))
      | inr f ↦ (
          let no = f.0 in
          elim (key_among os k)
          as (λ _. ((q : Object) × IsAmong q (o ∷ os) × (q.key ≡ k) × (contents_of (o ∷ os) k ≡ Some (versioned q)))
          ⊎ (IsAway k (o ∷ os) × (contents_of (o ∷ os) k ≡ None))) [
            | inl there ↦ inl (there.0, inr there.1, there.2, rw no there.3)
            | inr none ↦ inr (λ q m same. away q m same f.1 none.0, rw no none.1)
          ])
    ]
  where
    away : (q : Object) → IsAmong q (o ∷ os) → q.key ≡ k → (k ≡ o.key → ⊥) → IsAway k os → ⊥
    away q (inl same) own other later = other (sym own ∙ ap (λ (x : Object). x.key) (sym same))
    away q (inr m) own other later = later q m own

-- a key that no object has is not there
pub absent : (os : List Object) (k : Key) → IsAway k os → contents_of os k ≡ None
absent os k away = go (key_among os k)
  where
    go : ((o : Object) × IsAmong o os × (o.key ≡ k) × (contents_of os k ≡ Some (versioned o)))
        ⊎ (IsAway k os × (contents_of os k ≡ None))
        → contents_of os k ≡ None
    go (inl there) = absurd (away there.0 there.1 there.2)
    go (inr none) = none.1

-- what a list has at each key, if its objects are live and each live key is there
pub contents_are : (os : List Object) (contents : Contents)
    → ((o : Object) → IsAmong o os → contents o.key ≡ Some (versioned o))
    → ((k : Key) (x : Versioned) → contents k ≡ Some x → (o : Object) × IsAmong o os × (o.key ≡ k)) → (k : Key)
    → contents_of os k ≡ contents k
contents_are os contents live there k = go (key_among os k) (contents k) refl
  where
    go : ((o : Object) × IsAmong o os × (o.key ≡ k) × (contents_of os k ≡ Some (versioned o)))
        ⊎ (IsAway k os × (contents_of os k ≡ None))
        → (x : Option Versioned) → contents k ≡ x → contents_of os k ≡ contents k
    go (inl m) x is = m.3 ∙ sym (live m.0 m.1) ∙ ap contents m.2
    go (inr none) None is = none.1 ∙ sym is
    go (inr none) (Some x) is = let o = there k x is in absurd (none.0 o.0 o.1 o.2)

-- two lists that share no key
pub once_append : (xs ys : List Object) → AreOnce xs → AreOnce ys
    → ((o p : Object) → IsAmong o xs → IsAmong p ys → o.key ≡ p.key → ⊥) → AreOnce (xs ++ ys)
once_append [] ys first second apart = second
once_append (o ∷ xs) ys first second apart =
    (absent (xs ++ ys) o.key away, once_append xs ys first.1 second (λ q p m n same. apart q p (inr m) n same))
  where
    -- an object that is not there
    never : (q : Object) → IsAmong q xs → q.key ≡ o.key → ⊥
    never q m same = go (key_among xs o.key)
      where
        go : ((p : Object) × IsAmong p xs × (p.key ≡ o.key) × (contents_of xs o.key ≡ Some (versioned p)))
            ⊎ (IsAway o.key xs × (contents_of xs o.key ≡ None)) → ⊥
        go (inl there) = (let both : None ≡ Some (versioned there.0) = sym first.0 ∙ there.3 in cc)
        go (inr none) = none.0 q m same

    away : IsAway o.key (xs ++ ys)
    away q m same = elim (among_either q xs ys m) as (λ _. ⊥) [
      | inl here ↦ never q here same
      | inr there ↦ apart o q (inl refl) there (sym same)
    ]

-- ---- one entry

module _ (hs : Places) where
  abbrev Names : Object → Place → Type 0
  Names o p = names hs o.key p ≡ true

  pub live_is : (e : Entry) (p : Place) (o : Object) → IsAmong o (option_to_list (live_at hs p e))
      → (e ≡ entry.Object o) × Names o p
  live_is (entry.Header h) p o m = absurd m
  live_is (entry.Digest l) p o m = absurd m
  live_is (entry.Safe v) p o m = absurd m
  live_is (entry.Tombstone t) p o m = absurd m
  live_is (entry.Object q) p o m = go (names hs q.key p) refl m
    where
      go : (b : Bool) → names hs q.key p ≡ b
          → IsAmong o (option_to_list (if b then Some q else None))
          → (entry.Object q ≡ entry.Object o) × Names o p
      go true is (inl same) = (ap (λ (x : Object). entry.Object x) same, subst (λ (x : Object). Names x p) same is)
      go true is (inr m) = absurd m
      go false is m = absurd m

  pub live_there : (o : Object) (p : Place) → Names o p → IsAmong o (option_to_list (live_at hs p (entry.Object o)))
  live_there o p is = rw is (inl refl)

  live_once : (e : Entry) (p : Place) → AreOnce (option_to_list (live_at hs p e))
  live_once (entry.Header h) p = tt
  live_once (entry.Digest l) p = tt
  live_once (entry.Safe v) p = tt
  live_once (entry.Tombstone t) p = tt
  live_once (entry.Object q) p = go (names hs q.key p)
    where
      go : (b : Bool) → AreOnce (option_to_list (if b then Some q else None))
      go true = (refl, tt)
      go false = tt

  -- a live object of a segment is listed
  pub walk_has : (s at : ℕ) (before after : List Entry) (o : Object)
      → Names o (record { segment = s; at = at + length (text_of before) })
      → IsAmong o (live_from hs s at (before ++ entry.Object o ∷ after))
  walk_has s at [] after o is =
      let here : at + 0 ≡ at = omega arith in
      among_left o (option_to_list (live_at hs (record { segment = s; at = at }) (entry.Object o)))
      (live_from hs s (at + length (spelling (entry.Object o))) after)
      (live_there o (record { segment = s; at = at }) (subst
      (λ (n : ℕ). Names o (record { segment = s; at = n })) here is))
  walk_has s at (x ∷ xs) after o is =
      let more = length-append (spelling x) (text_of xs) in
      let there : at + length (text_of (x ∷ xs)) ≡ (at + length (spelling x)) + length (text_of xs) = omega arith in
      among_right o (option_to_list (live_at hs (record { segment = s; at = at }) x))
      (live_from hs s (at + length (spelling x)) (xs ++ entry.Object o ∷ after))
      (walk_has s (at + length (spelling x)) xs after o (subst
      (λ (n : ℕ). Names o (record { segment = s; at = n })) there is))

  pub place_has : (s : ℕ) (es : List Entry) (p : Place) (o : Object) → p.segment ≡ s
      → LiesAt es p.at (entry.Object o) → Names o p
      → IsAmong o (live_from hs s 0 es)
  place_has s es p o own lies is =
      let offset : p.at ≡ 0 + length (text_of lies.before) = (let at = lies.offset in omega arith) in
      let here : p ≡ record { segment = s; at = 0 + length (text_of lies.before) } =
      λ i. record { segment = own i; at = offset i } in
      subst (λ (l : List Entry). IsAmong o (live_from hs s 0 l)) (sym lies.split)
      (walk_has s 0 lies.before lies.after o (subst (λ (q : Place). Names o q) here is))

  pub closed_has : (cs : List Image) (c : Image) (o : Object) → IsAmong c cs → IsAmong o (live_from hs c.id 0 c.segment)
      → IsAmong o (live_closed hs cs)
  closed_has [] c o m live = absurd m
  closed_has (x ∷ cs) c o (inl same) live =
      among_left o (live_from hs x.id 0 x.segment) (live_closed hs cs)
      (subst (λ (y : Image). IsAmong o (live_from hs y.id 0 y.segment)) (sym same) live)
  closed_has (x ∷ cs) c o (inr m) live =
      among_right o (live_from hs x.id 0 x.segment) (live_closed hs cs) (closed_has cs c o m live)

-- ---- objects that an index leads to

module _ (images : ℕ → List Entry) (each : (s : ℕ) → AllByRecursion IsEntry (images s)) (hs : Places)
    (contents : Contents)
    (index : Indexes images hs contents) where
  -- an object whose place is named is its key's
  pub named_live : (o : Object) (p : Place) → IsAtPlace images p (entry.Object o) → Names hs o p
      → (found (keys_in images) o.key hs ≡ Some p) × (contents o.key ≡ Some (versioned o))
  named_live o p stands is =
      let seen : object_there images p ≡ Some o = object_seen images each p o stands in
      let told : keys_in images p ≡ Some o.key = key_seen images each p o.key (versioned o) stands in
      let there = named_found (keys_in images) o.key p told hs index.kept is in
      let lies = found_lies images o.key (found (keys_in images) o.key hs) (contents o.key)
      (index.lies o.key) p there in
      let x : Versioned = lies.0 in
      let again : object_there images p ≡ Some (record { key = o.key; version = x.version; value = x.value }) =
      object_seen images each p (record { key = o.key; version = x.version; value = x.value }) lies.2 in
      let one : record { key = o.key; version = x.version; value = x.value } ≡ o = same_Some _ o (sym again ∙ seen) in
      (there, lies.1 ∙ ap (λ (q : Object). Some (versioned q)) one)

  -- a key's object lies at a place that is named for it
  pub live_named : (k : Key) (x : Versioned) → contents k ≡ Some x
      → (p : Place) × IsAtPlace images p (object_at k x) × (names hs k p ≡ true)
  live_named k x has = go (found (keys_in images) k hs) (contents k) refl has (index.lies k)
    where
      go : (f : Option Place) (y : Option Versioned) → found (keys_in images) k hs ≡ f → y ≡ Some x
          → LiesFound images k f y
          → (p : Place) × IsAtPlace images p (object_at k x)
          × (names hs k p ≡ true)
      go None None is same lies = absurd (cc)
      go None (Some v) is same lies = absurd lies
      go (Some p) None is same lies = absurd lies
      go (Some p) (Some v) is same lies = (
        p,
        subst (λ (w : Versioned). IsAtPlace images p (object_at k w)) (same_Some v x same) lies,
        found_named (keys_in images) k p hs index.kept is,
      )

  -- ---- in segments

  -- an object that is found at such a place, and is its key's
  pub record IsLiveIn (P : Place → Type 0) (o : Object) : Type 0 where
    pub place : Place
    pub lies : P place
    pub finds : found (keys_in images) o.key hs ≡ Some place
    pub has : contents o.key ≡ Some (versioned o)

  pub live_apart : (P Q : Place → Type 0) → ((p : Place) → P p → Q p → ⊥) → (o q : Object) → IsLiveIn P o → IsLiveIn Q q
      → o.key ≡ q.key → ⊥
  live_apart P Q apart o q l m same =
      let one : l.place ≡ m.place =
      same_Some l.place m.place (sym l.finds ∙ ap (λ (k : Key). found (keys_in images) k hs) same ∙ m.finds) in
      apart m.place (subst P one l.lies) m.lies

  live_as : (P Q : Place → Type 0) → ((p : Place) → P p → Q p) → (o : Object) → IsLiveIn P o → IsLiveIn Q o
  live_as P Q as_is o l = record { place = l.place; lies = as_is l.place l.lies; finds = l.finds; has = l.has }

  -- at this offset of the segment, or from it on
  abbrev At : ℕ → ℕ → Place → Type 0
  At s at p = (p.segment ≡ s) × (p.at ≡ at)

  abbrev pub From : ℕ → ℕ → Place → Type 0
  From s at p = (p.segment ≡ s) × (at ≤ p.at)

  module _ (s at : ℕ) (front es : List Entry) (e : Entry) (is : images s ≡ front ++ e ∷ es)
      (from : at ≡ length (text_of front)) where
    abbrev Next : ℕ
    Next = at + length (spelling e)

    next_is : images s ≡ (front ++ e ∷ []) ++ es
    next_is = is ∙ sym (append_assoc front (e ∷ []) es)

    next_from : Next ≡ length (text_of (front ++ e ∷ []))
    next_from = omega (
      arith,
      from,
      ap length (text_of-append front (e ∷ [])),
      length-append (text_of front) (text_of (e ∷ [])),
      ap length (append-nil (spelling e)),
    )

    first_live : (o : Object) → IsAmong o (option_to_list (live_at hs (record { segment = s; at = at }) e))
        → IsLiveIn (At s at) o
    first_live o m =
        let own = live_is hs e (record { segment = s; at = at }) o m in
        let live = named_live o (record { segment = s; at = at }) (record {
          before = front;
          after = es;
          split = is ∙ ap (λ (x : Entry). front ++ x ∷ es) own.0;
          offset = from;
        }) own.1 in
        record { place = record { segment = s; at = at }; lies = (refl, refl); finds = live.0; has = live.1 }

  pub walk_live : (s at : ℕ) (front es : List Entry) → images s ≡ front ++ es
      → at ≡ length (text_of front) → (o : Object)
      → IsAmong o (live_from hs s at es) → IsLiveIn (From s at) o
  walk_live s at front [] is from o m = absurd m
  walk_live s at front (e ∷ es) is from o m =
      let n = at + length (spelling e) in
      elim (among_either o (option_to_list (live_at hs (record { segment = s; at = at }) e)) (live_from hs s n es) m)
      as (λ _. IsLiveIn (From s at) o) [
        | inl here ↦ live_as (At s at) (From s at) (λ p l. let own = l.1 in (l.0, omega arith)) o
            (first_live s at front es e is from o here)
        | inr there ↦ live_as (From s n) (From s at) (λ p l. let own = l.1 in (l.0, omega arith)) o
            (walk_live s n (front ++ e ∷ []) es (next_is s at front es e is from)
            (next_from s at front es e is from) o there)
      ]

  pub walk_once : (s at : ℕ) (front es : List Entry) → images s ≡ front ++ es → at ≡ length (text_of front)
      → AreOnce (live_from hs s at es)
  walk_once s at front [] is from = tt
  walk_once s at front (e ∷ es) is from =
      let n = at + length (spelling e) in
      let behind = next_is s at front es e is from in
      let offset = next_from s at front es e is from in
      once_append (option_to_list (live_at hs (record { segment = s; at = at }) e)) (live_from hs s n es)
      (live_once hs e (record { segment = s; at = at })) (walk_once s n (front ++ e ∷ []) es behind offset)
      (λ o p m l same. live_apart (At s at) (From s n)
      (λ q here there. let low = there.1 in let own = here.1 in let some = spelling-some e in absurd (omega arith))
      o p (first_live s at front es e is from o m) (walk_live s n (front ++ e ∷ []) es behind offset p l) same)

  -- ---- in closed segments

  abbrev pub AreImages : List Image → Type 0
  AreImages cs = AllByRecursion (λ (c : Image). images c.id ≡ c.segment) cs

  pub closed_live : (Q : ℕ → Type 0) (cs : List Image) → AreImages cs → AllByRecursion Q (ids_in cs) → (o : Object)
      → IsAmong o (live_closed hs cs) → IsLiveIn (λ (p : Place). Q p.segment) o
  closed_live Q [] are all o m = absurd m
  closed_live Q (c ∷ cs) are all o m =
      elim (among_either o (live_from hs c.id 0 c.segment) (live_closed hs cs) m) as (λ _. IsLiveIn
      (λ (p : Place). Q p.segment) o) [
        | inl here ↦ live_as (From c.id 0) (λ (p : Place). Q p.segment) (λ p l. subst Q (sym l.0) all.0) o
            (walk_live c.id 0 [] c.segment are.0 refl o here)
        | inr there ↦ closed_live Q cs are.1 all.1 o there
      ]

  pub closed_once : (cs : List Image) → AreImages cs → Rise (ids_in cs) → AreOnce (live_closed hs cs)
  closed_once [] are rise = tt
  closed_once (c ∷ cs) are rise =
      once_append (live_from hs c.id 0 c.segment) (live_closed hs cs) (walk_once c.id 0 [] c.segment are.0 refl)
      (closed_once cs are.1 rise.1)
      (λ o p m n same. live_apart (From c.id 0) (λ (q : Place). c.id < q.segment)
      (λ q here above. let own = here.0 in absurd (omega arith)) o p (walk_live c.id 0 [] c.segment are.0 refl o m)
      (closed_live (λ (z : ℕ). c.id < z) cs are.1 rise.0 p n) same)
