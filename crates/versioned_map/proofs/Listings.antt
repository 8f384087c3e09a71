-- Listing the objects of a bag that nothing in it outranks.
use Rattle.std.proofs.Common.{◌≡◌, ℕ, zero, suc, ◌+◌, ◌*◌, ◌<◌, ◌≤◌, ◌⊎◌, Bool, true, false}
use Rattle.std.proofs.Common.{not, List, [], ◌∷◌, ◌++◌, length, get_or, take, Option, Some, None}
use Rattle.std.proofs.Common.{IsTrue, refl, sym, ap, subst, ◌∙◌, inl, inr, arith}
use Rattle.std.specs.Prelude.{is_some}
use Rattle.std.specs.Bool.{MatchBool}
use Rattle.std.specs.List.{AllWithin, HoldsAt}
use Rattle.std.proofs.lemmas.List.{take_more}
use Rattle.std.proofs.lemmas.Option.{none-some}
use Rattle.entry.specs.declared.key.Key.{Key}
use Rattle.entry.specs.declared.entry.Object.{Object}
use Rattle.entry.specs.declared.entry.Entry.{Entry}
use Rattle.entry.specs.declared.entry.Entry.TheVariants as entry
use Rattle.entry.specs.Bag.{IsAmong}
use Rattle.entry.specs.Meaning.{Versioned, IsOfKey, rank_of, IsTop, object_at, IsMeaning}
use Rattle.entry.specs.Meaning.{IsClean, among, versioned, contents_of}
use Rattle.entry.proofs.KeyOrder.{key_eq_tells}
use Rattle.versioned_map.proofs.Keys.{at_key, at_other}
use Rattle.versioned_map.specs.Map.{AreOfDifferentKeys}
use Rattle.versioned_map.proofs.ObjectLists.{contents_of-push, differ_push}

-- ---- members by their places

among_at : {X : Type 0} (xs : List X) (i : ℕ) (d : X) → i < length xs → IsAmong (get_or xs i d) xs
among_at [] i d lt = absurd (omega arith)
among_at (x ∷ xs) zero d lt = inl refl
among_at (x ∷ xs) (suc i) d lt = inr (among_at xs i d (omega arith))

place_among : {X : Type 0} (x : X) (xs : List X) → IsAmong x xs → (i : ℕ) × (i < length xs) × (get_or xs i x ≡ x)
place_among x [] m = absurd m
place_among x (y ∷ ys) (inl e) = (0, omega arith, e)
place_among x (y ∷ ys) (inr m) =
    let there = place_among x ys m in let lt = there.1 in (suc there.0, omega arith, there.2)

among_push : {X : Type 0} (x y : X) (xs : List X) → IsAmong x (xs ++ y ∷ []) → IsAmong x xs ⊎ (y ≡ x)
among_push x y [] (inl e) = inr e
among_push x y [] (inr m) = absurd m
among_push x y (z ∷ zs) (inl e) = inl (inl e)
among_push x y (z ∷ zs) (inr m) = elim (among_push x y zs m) [ inl before ↦ inl (inr before) | inr e ↦ inr e ]

-- ---- what outranks an object

-- the entry is of the object's key and ranks above it
abbrev pub Outranks : Object → Entry → Type 0
Outranks o e = IsOfKey o.key e × (rank_of (entry.Object o) < rank_of e)

-- no entry of the bag does
abbrev pub IsHighest : List Entry → Object → Type 0
IsHighest bag o = (e : Entry) → among bag e → IsOfKey o.key e → rank_of e ≤ rank_of (entry.Object o)

highest_from_none : (bag : List Entry) (o : Object) → AllWithin (λ (e : Entry). Outranks o e → ⊥) bag 0 (length bag)
    → IsHighest bag o
highest_from_none bag o none e m of_key =
    let there = place_among e bag m in
    let not_above : Outranks o e → ⊥ =
    subst (λ (f : Entry). Outranks o f → ⊥) there.2 (none there.0 e (omega arith) there.1) in
    let no : rank_of (entry.Object o) < rank_of e → ⊥ = λ lt. not_above (of_key, lt) in
    omega arith

outranked : (bag : List Entry) (o : Object) (i : ℕ) → i < length bag → HoldsAt (λ (e : Entry). Outranks o e) bag i
    → IsHighest bag o → ⊥
outranked bag o i lt above highest =
    let e = get_or bag i (entry.Object o) in
    let over : Outranks o e = above (entry.Object o) in
    let le = highest e (among_at bag i (entry.Object o) lt) over.0 in
    let gt = over.1 in
    omega arith

pub highest_from_cases : (bag : List Entry) (o : Object) (r : Bool)
    → MatchBool r ((i : ℕ) × (i < length bag) × HoldsAt (λ (e : Entry). Outranks o e) bag i)
    (AllWithin (λ (e : Entry). Outranks o e → ⊥) bag 0 (length bag))
    → (IsTrue (not r) → IsHighest bag o) × (IsHighest bag o → IsTrue (not r))
highest_from_cases bag o true over =
    (λ no. absurd (cc), λ highest. absurd (outranked bag o over.0 over.1 over.2 highest))
highest_from_cases bag o false none = (λ _. highest_from_none bag o none, λ _. refl)

-- ---- listings

-- The objects are tops of the bag, of different keys, and each top among the first entries has its key in the list.
pub record IsListing (bag : List Entry) (count : ℕ) (os : List Object) : Type 0 where
  pub tops : (k : Key) (x : Versioned) → contents_of os k ≡ Some x → IsTop k (among bag) (object_at k x)
  pub listed : (k : Key) (x : Versioned) → among (take count bag) (object_at k x) → IsTop k (among bag) (object_at k x)
      → is_some (contents_of os k) ≡ true
  pub differ : AreOfDifferentKeys os

pub listing_none : (bag : List Entry) → IsListing bag 0 []
listing_none bag = record {
  tops = λ k x e. absurd (none-some x e);
  listed = λ k x m top. absurd (none_first bag (object_at k x) m);
  differ = λ i j d lt within. omega arith;
}
  where
    none_first : (es : List Entry) (e : Entry) → among (take 0 es) e → ⊥
    none_first [] e m = m
    none_first (f ∷ es) e m = m

pub take_next : (bag : List Entry) (i : ℕ) (e : Entry) → i < length bag → e ≡ get_or bag i e
    → take (i + 1) bag ≡ take i bag ++ e ∷ []
take_next bag i e lt is = take_more bag i e lt ∙ ap (λ (f : Entry). take i bag ++ f ∷ []) (sym is)

pub among_next : (bag : List Entry) (i : ℕ) (e : Entry) → i < length bag → e ≡ get_or bag i e → among bag e
among_next bag i e lt is = subst (λ (f : Entry). among bag f) (sym is) (among_at bag i e lt)

-- one entry more, whose key has no need to be listed or is listed already
pub listing_passes : (bag : List Entry) (count : ℕ) (os : List Object) (e : Entry)
    → take (count + 1) bag ≡ take count bag ++ e ∷ []
    → IsListing bag count os
    → ((k : Key) (x : Versioned) → e ≡ object_at k x → IsTop k (among bag) (object_at k x)
    → is_some (contents_of os k) ≡ true)
    → IsListing bag (count + 1) os
listing_passes bag count os e more before has = record {
  tops = before.tops;
  listed = λ k x m top. elim (among_push (object_at k x) e (take count bag) (subst (IsAmong (object_at k x)) more m)) [
    | inl earlier ↦ before.listed k x earlier top
    | inr here ↦ has k x here top
  ];
  differ = before.differ;
}

some_from_test : (x : Option Versioned) → is_some x ≡ false → x ≡ None
some_from_test None e = refl
some_from_test (Some x) e = absurd (cc)

pub object_key : (o : Object) (k : Key) (x : Versioned) → entry.Object o ≡ object_at k x → o.key ≡ k
object_key o k x e =
    let same : o ≡ record { key = k; version = x.version; value = x.value } = cc in ap (λ (p : Object). p.key) same

-- an object whose key is listed already
pub listed_already : (os : List Object) (o : Object) (k : Key) (x : Versioned) → is_some (contents_of os o.key) ≡ true
    → entry.Object o ≡ object_at k x
    → is_some (contents_of os k) ≡ true
listed_already os o k x has e = subst (λ (q : Key). is_some (contents_of os q) ≡ true) (object_key o k x e) has

pub highest_from_top : (bag : List Entry) (o : Object) (k : Key) (x : Versioned) → entry.Object o ≡ object_at k x
    → IsTop k (among bag) (object_at k x) → IsHighest bag o
highest_from_top bag o k x e top =
    let same : o ≡ record { key = k; version = x.version; value = x.value } = cc in
    subst (λ (p : Object). IsHighest bag p) (sym same) top.highest

-- one object more, which nothing outranks
pub listing_takes : (bag : List Entry) (count : ℕ) (os : List Object) (o : Object)
    → take (count + 1) bag ≡ take count bag ++ entry.Object o ∷ [] → among bag (entry.Object o)
    → IsListing bag count os → IsHighest bag o → is_some (contents_of os o.key) ≡ false
    → IsListing bag (count + 1) (os ++ o ∷ [])
listing_takes bag count os o more held before highest new = record {
  tops = λ k x e. tops k x e;
  listed = λ k x m top. elim (among_push (object_at k x) (entry.Object o) (take count bag)
      (subst (IsAmong (object_at k x)) more m)) [
        | inl earlier ↦ still_listed k (before.listed k x earlier top)
        | inr here ↦ ap is_some (here_listed k (object_key o k x here))
      ];
  differ = differ_push os o before.differ absent;
}
  where
    absent : contents_of os o.key ≡ None
    absent = some_from_test (contents_of os o.key) new

    here_listed : (k : Key) → o.key ≡ k → contents_of (os ++ o ∷ []) k ≡ Some (versioned o)
    here_listed k same =
        contents_of-push os o absent k ∙ at_key (contents_of os) o.key (Some (versioned o)) k (sym same)

    earlier_listed : (k : Key) → (k ≡ o.key → ⊥) → contents_of (os ++ o ∷ []) k ≡ contents_of os k
    earlier_listed k other =
        contents_of-push os o absent k ∙ at_other (contents_of os) o.key (Some (versioned o)) k other

    still_listed : (k : Key) → is_some (contents_of os k) ≡ true → is_some (contents_of (os ++ o ∷ []) k) ≡ true
    still_listed k has = elim (key_eq_tells k o.key) [
      | inl t ↦ ap is_some (here_listed k (sym t.1))
      | inr f ↦ ap is_some (earlier_listed k f.1) ∙ has
    ]

    top : IsTop o.key (among bag) (object_at o.key (versioned o))
    top = record { held = held; of_key = refl; highest = highest }

    tops : (k : Key) (x : Versioned) → contents_of (os ++ o ∷ []) k ≡ Some x → IsTop k (among bag) (object_at k x)
    tops k x e = elim (key_eq_tells k o.key) [
      | inl t ↦ (
          let found : Some (versioned o) ≡ Some x = sym (here_listed k (sym t.1)) ∙ e in
          let same : versioned o ≡ x = cc in
          subst (λ (q : Key). IsTop q (among bag) (object_at q x)) (sym t.1)
          (subst (λ (y : Versioned). IsTop o.key (among bag) (object_at o.key y)) same top)
          )
      | inr f ↦ before.tops k x (sym (earlier_listed k f.1) ∙ e)
    ]

-- in a clean bag two tops of a key have one version and value
one_top : (bag : List Entry) (k : Key) (x y : Versioned) → IsClean (among bag) → IsTop k (among bag) (object_at k x)
    → IsTop k (among bag) (object_at k y) → x ≡ y
one_top bag k x y clean top other =
    let le : 2 * x.version ≤ 2 * y.version = other.highest (object_at k x) top.held refl in
    let ge : 2 * y.version ≤ 2 * x.version = top.highest (object_at k y) other.held refl in
    let version : x.version ≡ y.version = omega arith in
    let value : x.value ≡ y.value =
    clean (record { key = k; version = x.version; value = x.value })
    (record { key = k; version = y.version; value = y.value }) top.held other.held refl version in
    λ i. record { version = version i; value = value i }

pub listing_means : (bag : List Entry) (os : List Object) → IsListing bag (length bag) os → IsClean (among bag)
    → IsMeaning (among bag) (contents_of os)
listing_means bag os all clean =
    λ k x. (
      all.tops k x,
      λ top. has k x top (contents_of os k) refl
          (all.listed k x (whole bag (object_at k x) top.held) top),
    )
  where
    whole : (es : List Entry) (e : Entry) → among es e → among (take (length es) es) e
    whole [] e m = m
    whole (f ∷ es) e (inl here) = inl here
    whole (f ∷ es) e (inr m) = inr (whole es e m)

    has : (k : Key) (x : Versioned) → IsTop k (among bag) (object_at k x) → (found : Option Versioned)
        → contents_of os k ≡ found
        → is_some found ≡ true → contents_of os k ≡ Some x
    has k x top None e some = absurd (cc)
    has k x top (Some y) e some = e ∙ ap Some (one_top bag k y x clean (all.tops k y e) top)
