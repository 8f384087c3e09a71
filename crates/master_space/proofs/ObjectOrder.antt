-- The live objects of a table, once they are sorted by the bytes of their keys.
use Rattle.std.proofs.Common.{◌≡◌, ℕ, ◌+◌, ◌<◌, Bool, true, false, cond, List, [], ◌∷◌, get_or, length, map, refl, sym}
use Rattle.std.proofs.Common.{ap}
use Rattle.std.proofs.Common.{subst, ◌∙◌, inl, inr, arith}
use Rattle.std.specs.Prelude.{Some, None, ◌==◌}
use Rattle.std.specs.Cmp.Lexicographic.{slice_cmp, texts_ties, bytes_decides}
use Rattle.std.specs.List.{IsDistinct}
use Rattle.std.specs.List.Sorted.{IsPermutation, IsSortedByKey, IsStrictlySortedBy}
use Rattle.std.specs.Ordering.{nat_cmp, ordering_reverse, is_lt, is_eq}
use Rattle.std.specs.declared.cmp.Ordering.{Ordering}
use Rattle.std.specs.declared.cmp.Ordering.TheVariants.{Less, Equal, Greater}
use Rattle.std.proofs.lemmas.Bool.{eqb-true}
use Rattle.std.proofs.lemmas.Bool.Decides.{Decides-eqb}
use Rattle.std.proofs.lemmas.Cmp.{nat_list_cmp_total}
use Rattle.std.proofs.lemmas.List.{get_or-map, get_or_default, length-map}
use Rattle.std.proofs.lemmas.List.Sorted.{IsPermutation-map, IsPermutation-sym}
use Rattle.std.proofs.lemmas.Option.{same_Some}
use Rattle.std.proofs.lemmas.Map.Keys.{IsDistinct-IsPermutation, apart_from_distinct}
use Rattle.std.proofs.lemmas.Map.Keys.{sorted_from_all_adjacent}
use Rattle.entry.specs.declared.key.Key.{Key}
use Rattle.entry.specs.declared.entry.Object.{Object}
use Rattle.entry.specs.declared.view.ObjectRef.{ObjectRef}
use Rattle.entry.specs.Bag.{IsAmong}
use Rattle.entry.specs.Meaning.{Versioned, Contents, versioned, contents_of}
use Rattle.entry.specs.Order.{key_eq}
use Rattle.entry.specs.View.{shown_object}
use Rattle.entry.proofs.BagLemmas.{among_permutation, among_at}
use Rattle.entry.proofs.KeyOrder.{key_eq_decides, key_eq_tells}
use Rattle.entry.proofs.ListLemmas.{all_from_among}
use Rattle.master_space.proofs.LiveObjects.{key_among}
use Rattle.master_space.specs.Objects.{AreObjectsOf, of_table}
use Rattle.master_state.specs.Sizes.{AreOnce}

-- ---- the objects of a table among others

kept_in : (table : ℕ) (os : List Object) (o : Object) → IsAmong o (of_table table os)
    → IsAmong o os × (o.key.table ≡ table)
kept_in table [] o m = absurd m
kept_in table (p ∷ ps) o m = go (kept_in table ps o) (p.key.table == table) refl m
  where
    go : (IsAmong o (of_table table ps) → IsAmong o ps × (o.key.table ≡ table)) → (b : Bool)
        → (p.key.table == table) ≡ b
        → IsAmong o (cond b (p ∷ of_table table ps) (of_table table ps))
        → IsAmong o (p ∷ ps) × (o.key.table ≡ table)
    go later true is (inl same) =
        (inl same, ap (λ (x : Object). x.key.table) (sym same) ∙ eqb-true p.key.table table is)
    go later true is (inr m) = (inr (later m).0, (later m).1)
    go later false is m = (inr (later m).0, (later m).1)

kept_of : (table : ℕ) (os : List Object) (o : Object) → IsAmong o os → (o.key.table == table) ≡ true
    → IsAmong o (of_table table os)
kept_of table [] o m is = absurd m
kept_of table (p ∷ ps) o m is = go (λ n. kept_of table ps o n is) (p.key.table == table) refl m
  where
    go : (IsAmong o ps → IsAmong o (of_table table ps)) → (b : Bool) → (p.key.table == table) ≡ b
        → IsAmong o (p ∷ ps)
        → IsAmong o (cond b (p ∷ of_table table ps) (of_table table ps))
    go later true at (inl same) = inl same
    go later true at (inr n) = inr (later n)
    go later false at (inl same) =
        let never : true ≡ false = sym is ∙ ap (λ (x : Object). x.key.table == table) (sym same) ∙ at in absurd (cc)
    go later false at (inr n) = later n

-- ---- no key is there twice

key_itself : (k : Key) → key_eq k k ≡ true
key_itself k = (key_eq_decides k k).1 refl

abbrev same_key : Object → Object → Bool
same_key o p = key_eq o.key p.key

flips : (o p : Object) → same_key o p ≡ same_key p o
flips o p = elim (key_eq_tells o.key p.key) as (λ _. same_key o p ≡ same_key p o) [
  | inl same ↦ elim (key_eq_tells p.key o.key) as (λ _. same_key o p ≡ same_key p o) [
    | inl back ↦ same.0 ∙ sym back.0
    | inr other ↦ absurd (other.1 (sym same.1))
  ]
  | inr other ↦ elim (key_eq_tells p.key o.key) as (λ _. same_key o p ≡ same_key p o) [
    | inl back ↦ absurd (other.1 (sym back.1))
    | inr away ↦ other.0 ∙ sym away.0
  ]
]

-- a key that the list has nothing at is no object's
apart : (os : List Object) (o : Object) → contents_of os o.key ≡ None → (p : Object) → IsAmong p os
    → same_key o p ≡ false
apart os o none p m = elim (key_among os o.key) as (λ _. same_key o p ≡ false) [
  | inl there ↦ (let both : None ≡ Some (versioned there.0) = sym none ∙ there.3 in absurd (cc))
  | inr away ↦ elim (key_eq_tells o.key p.key) as (λ _. same_key o p ≡ false) [
    | inl same ↦ absurd (away.0 p m (sym same.1))
    | inr other ↦ other.0
  ]
]

distinct : (table : ℕ) (os : List Object) → AreOnce os → IsDistinct same_key (of_table table os)
unfolding IsDistinct
distinct table [] once = tt
distinct table (o ∷ os) once = go (distinct table os once.1) (o.key.table == table)
  where
    go : IsDistinct same_key (of_table table os) → (b : Bool)
        → IsDistinct same_key (cond b (o ∷ of_table table os) (of_table table os))
    go later true = (
      all_from_among (λ (p : Object). same_key o p ≡ false) (of_table table os)
          (λ p m. apart os o once.0 p (kept_in table os p m).0),
      later,
    )
    go later false = later

-- each object is what the list has at its key
live_has : (os : List Object) (o : Object) → AreOnce os → IsAmong o os → contents_of os o.key ≡ Some (versioned o)
live_has [] o once m = absurd m
live_has (p ∷ ps) o once (inl same) =
    subst (λ (q : Object). contents_of (p ∷ ps) q.key ≡ Some (versioned q)) same (rw (key_itself p.key) refl)
live_has (p ∷ ps) o once (inr m) = elim (key_eq_tells o.key p.key)
    as (λ _. contents_of (p ∷ ps) o.key ≡ Some (versioned o)) [
      | inl same ↦ absurd (elim (key_among ps p.key) as (λ _. ⊥) [
        | inl there ↦ (let both : None ≡ Some (versioned there.0) = sym once.0 ∙ there.3 in cc)
        | inr away ↦ away.0 o m same.1
      ])
      | inr other ↦ (let apart_from = other.0 in rw apart_from (live_has ps o once.1 m))
    ]

-- what the list has at a key is an object of it
has_live : (os : List Object) (k : Key) (x : Versioned) → contents_of os k ≡ Some x
    → IsAmong (record { key = k; version = x.version; value = x.value }) os
has_live os k x is = elim (key_among os k)
    as (λ _. IsAmong (record { key = k; version = x.version; value = x.value }) os) [
      | inl at ↦ (
          let value : versioned at.0 ≡ x = same_Some (versioned at.0) x (sym at.3 ∙ is) in
          let one : at.0 ≡ record { key = k; version = x.version; value = x.value } =
          λ i. record { key = at.2 i; version = (value i).version; value = (value i).value } in
          subst (λ (o : Object). IsAmong o os) one at.1)
      | inr away ↦ (let never : None ≡ Some x = sym away.1 ∙ is in absurd (cc))
    ]

-- ---- the bytes of the keys rise

abbrev bytes_of : Object → List ℕ
bytes_of o = o.key.bytes

-- two keys of one table with other bytes, of which the second isn't less
less : (o p : Object) → o.key.table ≡ p.key.table → same_key o p ≡ false
    → is_lt (slice_cmp nat_cmp (bytes_of p) (bytes_of o)) ≡ false
    → slice_cmp nat_cmp (bytes_of o) (bytes_of p) ≡ Less
less o p table away not_less = go (slice_cmp nat_cmp (bytes_of o) (bytes_of p)) refl
  where
    go : (r : Ordering) → slice_cmp nat_cmp (bytes_of o) (bytes_of p) ≡ r → r ≡ Less
    go Less is = refl
    go Equal is =
        let bytes : bytes_of o ≡ bytes_of p = (bytes_decides (bytes_of o) (bytes_of p)).0
        (texts_ties (bytes_of o) (bytes_of p) ∙ ap is_eq is) in
        let key : o.key ≡ p.key = λ i. record { table = table i; bytes = bytes i } in
        absurd (elim (key_eq_tells o.key p.key) as (λ _. ⊥) [
          | inl same ↦ (let never : true ≡ false = sym same.0 ∙ away in absurd (cc))
          | inr other ↦ other.1 key
        ])
    go Greater is =
        let back : slice_cmp nat_cmp (bytes_of p) (bytes_of o) ≡ Less =
        nat_list_cmp_total.antisymm (bytes_of p) (bytes_of o) ∙ ap ordering_reverse is in
        let never : true ≡ false = ap is_lt (sym back) ∙ not_less in absurd (cc)

-- what is at a place of the list is one of it
there : (os : List Object) (k : ℕ) (d : Object) → k < length os → IsAmong (get_or os k d) os
there os k d lt = among_at os k (get_or os k d) lt (get_or_default os k d (get_or os k d) lt)

rising : (table : ℕ) (os : List Object) → IsSortedByKey bytes_of (slice_cmp nat_cmp) os → IsDistinct same_key os
    → ((o : Object) → IsAmong o os → o.key.table ≡ table)
    → IsStrictlySortedBy (slice_cmp nat_cmp) (map bytes_of os)
rising table [] up once own = sorted_from_all_adjacent nat_list_cmp_total [] [] (λ k lt. absurd (omega (arith, lt)))
rising table (f ∷ fs) up once own =
    sorted_from_all_adjacent nat_list_cmp_total (map bytes_of (f ∷ fs)) (bytes_of f) (λ k lt.
    let long : length (map bytes_of (f ∷ fs)) ≡ length (f ∷ fs) = length-map (f ∷ fs) bytes_of in
    let within : k + 1 < length (f ∷ fs) = omega (arith, lt, long) in
    let low : k < length (f ∷ fs) = omega (arith, within) in
    let o = get_or (f ∷ fs) k f in
    let p = get_or (f ∷ fs) (k + 1) f in
    rw (get_or-map bytes_of (f ∷ fs) k f (bytes_of f) low, get_or-map bytes_of (f ∷ fs) (k + 1) f (bytes_of f) within)
    (less o p
    (own o (there (f ∷ fs) k f low) ∙ sym (own p (there (f ∷ fs) (k + 1) f within)))
    (apart_from_distinct same_key (f ∷ fs) k (k + 1) f once (omega arith) within)
    (up k f (omega arith) within)))

-- sorting the objects sorts what they show
shown_sorted : (rs : List ObjectRef) → IsSortedByKey (λ (o : ObjectRef). o.key.bytes.now) (slice_cmp nat_cmp) rs
    → IsSortedByKey bytes_of (slice_cmp nat_cmp) (map shown_object rs)
shown_sorted [] up k d low within = absurd (omega (arith, within))
shown_sorted (r ∷ rs) up k d low within =
    let long : length (map shown_object (r ∷ rs)) ≡ length (r ∷ rs) = length-map (r ∷ rs) shown_object in
    let next : k + 1 < length (r ∷ rs) = omega (arith, within, long) in
    rw (get_or-map shown_object (r ∷ rs) (k + 1) r d next, get_or-map shown_object (r ∷ rs) k r d (omega (arith, next)))
    (up k r low next)

-- ---- the list

pub listed : (contents : Contents) (table : ℕ) (live : List Object) → contents_of live ≡ contents → AreOnce live
    → (before after : List ObjectRef) → map shown_object before ≡ of_table table live → IsPermutation before after
    → IsSortedByKey (λ (o : ObjectRef). o.key.bytes.now) (slice_cmp nat_cmp) after
    → AreObjectsOf contents table (map shown_object after)
listed contents table live all once before after found moved up = record {
  only = λ o m.
      let at = kept_in table live o (back o m) in (at.1, has o at.0);
  all = λ k x own is. forth k x own is;
  order = rising table (map shown_object after) (shown_sorted after up) apart_after
      (λ o m. (kept_in table live o (back o m)).1);
}
  where
    shown_moved : IsPermutation (map shown_object before) (map shown_object after)
    shown_moved = IsPermutation-map shown_object before after moved

    back : (o : Object) → IsAmong o (map shown_object after) → IsAmong o (of_table table live)
    back o m =
        subst (λ (os : List Object). IsAmong o os) found
        (among_permutation o (map shown_object after) (map shown_object before)
        (IsPermutation-sym (map shown_object before) (map shown_object after) shown_moved) m)

    has : (o : Object) → IsAmong o live → contents o.key ≡ Some (versioned o)
    has o m = (λ i. sym all i o.key) ∙ live_has live o once m

    forth : (k : Key) (x : Versioned) → k.table ≡ table → contents k ≡ Some x
        → IsAmong (record { key = k; version = x.version; value = x.value }) (map shown_object after)
    forth k x own is =
        among_permutation (record { key = k; version = x.version; value = x.value }) (map shown_object before)
        (map shown_object after) shown_moved
        (subst (λ (os : List Object). IsAmong (record { key = k; version = x.version; value = x.value }) os) (sym found)
        (kept_of table live (record { key = k; version = x.version; value = x.value })
        (has_live live k x ((λ i. all i k) ∙ is)) (rw own ((Decides-eqb table table).1 refl))))

    apart_after : IsDistinct same_key (map shown_object after)
    apart_after =
        IsDistinct-IsPermutation same_key flips (map shown_object before) (map shown_object after) shown_moved
        (subst (λ (os : List Object). IsDistinct same_key os) (sym found) (distinct table live once))
