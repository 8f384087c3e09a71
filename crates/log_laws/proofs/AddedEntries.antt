-- An entry added to an image: an object or tombstone of a command.
use Rattle.std.proofs.Common.{◌≡◌, ℕ, ◌*◌, ◌<◌, ◌≤◌, ◌⊎◌, inl, inr, length, sym, ap, subst, ◌∙◌, arith}
use Rattle.std.specs.Prelude.{Some, None}
use Rattle.std.proofs.lemmas.Bool.{cases_eq}
use Rattle.entry.specs.declared.key.Key.{Key}
use Rattle.entry.specs.declared.entry.Object.{Object as ObjectValue}
use Rattle.entry.specs.declared.entry.Tombstone.{Tombstone as TombstoneValue}
use Rattle.entry.specs.declared.entry.Entry.{Entry}
use Rattle.entry.specs.declared.entry.Entry.TheVariants.{Object, Tombstone}
use Rattle.entry.specs.Bag.{IsAmong}
use Rattle.entry.specs.Meaning.{Versioned, Contents, IsOfKey, rank_of, object_at, IsClean, versioned}
use Rattle.log_laws.specs.Covered.{IsLive, IsDead}
use Rattle.log_laws.specs.Memory.{Place, Index, LogSet, Pass, IsAt, SegmentHas, ImagesHave, LogHas, copied}
use Rattle.log_laws.specs.ImageSteps.{next_place}
use Rattle.log_laws.specs.Tracked.{IsCopied, IsBuried, IsFound, IsTracked}
use Rattle.log_laws.proofs.ImageLists.{grown_in, grown_out, at_grown, at_grown_last}
use Rattle.log_laws.proofs.Premises.{IsSet, IsAdded}
use Rattle.log_laws.proofs.TrackedBags.{in_segment, of_same, of_other, stands_in, key_tells, object_is, one_object}
use Rattle.log_laws.proofs.TrackedBags.{one_object_key, buried_again}

pub added_copied : (log : LogSet) (s : ℕ) (e : Entry) → IsAdded log (copied log s e) s e
added_copied log s e = record {
  counted = λ z m. m;
  out = λ z f m. elim m.among [
    | inl a ↦ elim (grown_out log.image s e z f a) [
      | inl b ↦ inl (record { counts = m.counts; among = inl b })
      | inr w ↦ inr w
    ]
    | inr a ↦ inl (record { counts = m.counts; among = inr a })
  ];
  image = λ z f m. grown_in log.image s e z f m;
  places = λ z i f m. at_grown log.image s e z i f m;
  last = at_grown_last log.image s e;
}

module _ (log new : LogSet) (s : ℕ) (e : Entry) (added : IsAdded log new s e) (pass : Pass) where
  pub copied_grows : (z y : ℕ) (o : ObjectValue) → IsCopied log.image pass z y o → IsCopied new.image pass z y o
  copied_grows z y o c =
      record { victim = c.victim; survivor = c.survivor; copy = added.image y (Object o) c.copy }

  pub buried_grows : (z : ℕ) (o : ObjectValue) → IsBuried log.ids log.image pass z o
      → IsBuried new.ids new.image pass z o
  buried_grows z o b = buried_again log.ids new.ids log.image new.image pass pass z o b (
    b.stands.0,
    record {
      counts = added.counted b.stands.0 b.stands.1.counts;
      among = added.image b.stands.0 (Tombstone b.grave) b.stands.1.among;
    },
  )
      (elim b.names [ inl same ↦ inl same | inr c ↦ inr (copied_grows z b.grave.segment o c) ])

  pub found_grows : (index moved : Index) (k : Key) (x : Versioned) → moved k ≡ index k
      → IsFound log.ids log.image index k x → IsFound new.ids new.image moved k x
  found_grows index moved k x same f = record {
    place = f.place;
    indexed = same ∙ f.indexed;
    counts = added.counted f.place.segment f.counts;
    stands = added.places f.place.segment f.place.position (object_at k x) f.stands;
  }

-- ---- a new object of a key that has none

module _ (log new : LogSet) (head : ℕ) (o : ObjectValue) (added : IsAdded log new head (Object o)) (pass : Pass)
    (index moved : Index) (contents after : Contents) (is : IsTracked log pass index contents)
    (counts : IsAmong head new.ids) (to : IsSet index moved o.key (Some (next_place log.image head)))
    (changes : IsSet contents after o.key (Some (versioned o))) (absent : contents o.key ≡ None)
    (above : (z : ℕ) (f : Entry) → SegmentHas log z f → IsOfKey o.key f → rank_of f < 2 * o.version) where
  -- no object of the key and version was there
  new_version : (z : ℕ) (a : ObjectValue) → SegmentHas log z (Object a) → a.key ≡ o.key → a.version ≡ o.version → ⊥
  new_version z a l key version = let lt = above z (Object a) l key in omega arith

  object_clean : IsClean (LogHas new)
  object_clean a b ma mb k v = elim (added.out ma.0 (Object a) ma.1) as (λ _. a.value ≡ b.value) [
    | inl l ↦ elim (added.out mb.0 (Object b) mb.1) as (λ _. a.value ≡ b.value) [
      | inl m ↦ is.clean a b (ma.0, l) (mb.0, m) k v
      | inr w ↦ (
          let same = one_object o b w.1 in
          absurd (new_version ma.0 a l (k ∙ sym (ap (λ (z : ObjectValue). z.key) same))
          (v ∙ sym (ap (λ (z : ObjectValue). z.version) same))))
    ]
    | inr u ↦ elim (added.out mb.0 (Object b) mb.1) as (λ _. a.value ≡ b.value) [
      | inl m ↦ (
          let same = one_object o a u.1 in
          absurd (new_version mb.0 b m (sym k ∙ sym (ap (λ (z : ObjectValue). z.key) same))
          (sym v ∙ sym (ap (λ (z : ObjectValue). z.version) same))))
      | inr w ↦ ap (λ (z : ObjectValue). z.value) (sym (one_object o a u.1) ∙ one_object o b w.1)
    ]
  ]

  of_no_other : (k : Key) → (k ≡ o.key → ⊥) → (f : Entry) → Object o ≡ f → IsOfKey k f → ⊥
  of_no_other k other f same key = other (sym (of_same k (Object o) f same key))

  -- what the key has now is the new object
  newest : (k : Key) (x : Versioned) → k ≡ o.key → after k ≡ Some x → versioned o ≡ x
  newest k x same h = let e = ap after same in let now = changes.here in cc

  new_number : (k : Key) (x : Versioned) → k ≡ o.key → after k ≡ Some x → o.version ≡ x.version
  new_number k x same h = ap (λ (y : Versioned). y.version) (newest k x same h)

  object_highest : (k : Key) (x : Versioned) → after k ≡ Some x → (s : ℕ) (f : Entry) → SegmentHas new s f
      → IsOfKey k f → rank_of f ≤ 2 * x.version
  object_highest k x h s f m key = elim (key_tells k o.key) as (λ _. rank_of f ≤ 2 * x.version) [
    | inl same ↦ (let v = new_number k x same h in elim (added.out s f m) as (λ _. rank_of f ≤ 2 * x.version) [
      | inl l ↦ (let lt = above s f l (of_other k o.key f same key) in omega arith)
      | inr w ↦ (let r : 2 * o.version ≡ rank_of f = ap rank_of w.1 in omega arith)
    ])
    | inr other ↦ elim (added.out s f m) as (λ _. rank_of f ≤ 2 * x.version) [
      | inl l ↦ is.highest k x (sym (changes.there k other) ∙ h) s f l key
      | inr w ↦ absurd (of_no_other k other f w.1 key)
    ]
  ]

  object_found : (k : Key) (x : Versioned) → after k ≡ Some x → IsFound new.ids new.image moved k x
  object_found k x h = elim (key_tells k o.key) [
    | inl same ↦ (let n = newest k x same h in record {
      place = next_place log.image head;
      indexed = ap moved same ∙ to.here;
      counts = counts;
      stands = subst (λ (e : Entry). IsAt (new.image head) (length (log.image head)) e)
          (object_is o k x (sym same) (ap (λ (y : Versioned). y.version) n) (ap (λ (y : Versioned). y.value) n))
          added.last;
    })
    | inr other ↦ found_grows log new head (Object o) added pass index moved k x (to.there k other)
        (is.found k x (sym (changes.there k other) ∙ h))
  ]

  object_unindexed : (k : Key) → after k ≡ None → moved k ≡ None
  object_unindexed k gone = elim (key_tells k o.key) [
    | inl same ↦ (let e = ap after same in let now = changes.here in absurd (cc))
    | inr other ↦ to.there k other ∙ is.unindexed k (sym (changes.there k other) ∙ gone)
  ]

  object_lies : (k : Key) (x : Versioned) (p : Place) → after k ≡ Some x → moved k ≡ Some p → (s : ℕ) (a : ObjectValue)
      → SegmentHas new s (Object a) → Object a ≡ object_at k x → (p.segment ≡ s) ⊎ IsCopied new.image pass s p.segment a
  object_lies k x p h i s a m same = elim (key_tells k o.key) [
    | inl here ↦ elim (added.out s (Object a) m) [
      | inl l ↦ (
          let r : 2 * a.version ≡ 2 * x.version = ap rank_of same in
          let v = new_number k x here h in
          absurd (new_version s a l (one_object_key _ _ same ∙ here) (omega arith)))
      | inr w ↦ (
          let e = ap moved here in
          let now = to.here in
          let place : next_place log.image head ≡ p = cc in
          inl (ap (λ (q : Place). q.segment) (sym place) ∙ sym w.0))
    ]
    | inr other ↦ elim (added.out s (Object a) m) [
      | inl l ↦ elim (is.lies k x p (sym (changes.there k other) ∙ h) (sym (to.there k other) ∙ i) s a l same) [
        | inl e ↦ inl e
        | inr c ↦ inr (copied_grows log new head (Object o) added pass s p.segment a c)
      ]
      | inr w ↦ absurd (of_no_other k other (Object a) w.1 (one_object_key _ _ same))
    ]
  ]

  object_buried : (s : ℕ) (a : ObjectValue) → SegmentHas new s (Object a) → IsDead after a
      → IsBuried new.ids new.image pass s a
  object_buried s a m dead = elim (added.out s (Object a) m) [
    | inl l ↦ buried_grows log new head (Object o) added pass s a (is.buried s a l (λ live.
        dead (changes.there a.key (λ same. let e = ap contents same in absurd (cc)) ∙ live)))
    | inr w ↦ absurd (dead (subst (λ (b : ObjectValue). IsLive after b) (one_object o a w.1) changes.here))
  ]

  pub object_added : IsTracked new pass moved after
  object_added = record {
    clean = object_clean;
    highest = object_highest;
    found = object_found;
    unindexed = object_unindexed;
    lies = object_lies;
    buried = object_buried;
  }

-- ---- a tombstone of a key's object

module _ (log new : LogSet) (head : ℕ) (t : TombstoneValue) (added : IsAdded log new head (Tombstone t)) (pass : Pass)
    (index moved : Index) (contents after : Contents) (is : IsTracked log pass index contents)
    (stands : ImagesHave new.ids new.image (Tombstone t)) (x : Versioned) (present : contents t.key ≡ Some x)
    (version : t.version ≡ x.version) (p : Place) (indexed : index t.key ≡ Some p) (names : t.segment ≡ p.segment)
    (to : IsSet index moved t.key None) (changes : IsSet contents after t.key None) where
  old_of : (s : ℕ) (a : ObjectValue) → SegmentHas new s (Object a) → SegmentHas log s (Object a)
  old_of s a m = elim (added.out s (Object a) m) [ inl l ↦ l | inr w ↦ (let e = w.1 in absurd (cc)) ]

  other_key : (k : Key) (y : Versioned) → after k ≡ Some y → k ≡ t.key → ⊥
  other_key k y h same = let e = ap after same in let now = changes.here in absurd (cc)

  before : (k : Key) (y : Versioned) → after k ≡ Some y → contents k ≡ Some y
  before k y h = sym (changes.there k (other_key k y h)) ∙ h

  tombstone_highest : (k : Key) (y : Versioned) → after k ≡ Some y → (s : ℕ) (f : Entry) → SegmentHas new s f
      → IsOfKey k f → rank_of f ≤ 2 * y.version
  tombstone_highest k y h s f m key = elim (added.out s f m) as (λ _. rank_of f ≤ 2 * y.version) [
    | inl l ↦ is.highest k y (before k y h) s f l key
    | inr w ↦ absurd (other_key k y h (sym (of_same k (Tombstone t) f w.1 key)))
  ]

  copied_now : (s y : ℕ) (a : ObjectValue) → IsCopied log.image pass s y a → IsCopied new.image pass s y a
  copied_now s y a c = copied_grows log new head (Tombstone t) added pass s y a c

  buried_before : (s : ℕ) (a : ObjectValue) → IsBuried log.ids log.image pass s a → IsBuried new.ids new.image pass s a
  buried_before s a b = buried_grows log new head (Tombstone t) added pass s a b

  -- the object that the tombstone is for
  buried_now : (s : ℕ) (a : ObjectValue) → SegmentHas log s (Object a) → a.key ≡ t.key → a.version ≡ x.version
      → IsBuried new.ids new.image pass s a
  buried_now s a m key same =
      let there = stands_in log pass index contents is t.key x present in
      let it : ObjectValue = record { key = t.key; version = x.version; value = x.value } in
      let value = is.clean a it (s, m) (there.0, in_segment log there.0 _ there.1) key same in
      record {
        grave = t;
        of_key = sym key;
        of_version = version ∙ sym same;
        stands = stands;
        names = elim (is.lies t.key x p present indexed s a m (object_is a t.key x key same value)) [
          | inl e ↦ inl (names ∙ e)
          | inr c ↦ inr (subst (λ (y : ℕ). IsCopied new.image pass s y a) (sym names) (copied_now s p.segment a c))
        ];
      }

  tombstone_buried : (s : ℕ) (a : ObjectValue) → SegmentHas new s (Object a) → IsDead after a
      → IsBuried new.ids new.image pass s a
  tombstone_buried s a m dead =
      let l = old_of s a m in
      elim (key_tells a.key t.key) [
        | inl key ↦ elim (cases_eq a.version x.version) [
          | inl same ↦ buried_now s a l key same
          | inr other ↦ buried_before s a (is.buried s a l (λ live.
              let e = ap contents key in
              let one : versioned a ≡ x = cc in
              other (ap (λ (y : Versioned). y.version) one)))
        ]
        | inr other ↦ buried_before s a (is.buried s a l (λ live. dead (changes.there a.key other ∙ live)))
      ]

  pub tombstone_added : IsTracked new pass moved after
  tombstone_added = record {
    clean = λ a b ma mb. is.clean a b (ma.0, old_of ma.0 a ma.1) (mb.0, old_of mb.0 b mb.1);
    highest = tombstone_highest;
    found = λ k y h. found_grows log new head (Tombstone t) added pass index moved k y
        (to.there k (other_key k y h)) (is.found k y (before k y h));
    unindexed = λ k gone. elim (key_tells k t.key) [
      | inl same ↦ ap moved same ∙ to.here
      | inr other ↦ to.there k other ∙ is.unindexed k (sym (changes.there k other) ∙ gone)
    ];
    lies = λ k y q h i s a m same.
        let was = sym (to.there k (other_key k y h)) ∙ i in
        elim (is.lies k y q (before k y h) was s a (old_of s a m) same) [
          | inl e ↦ inl e
          | inr c ↦ inr (copied_now s q.segment a c)
        ];
    buried = tombstone_buried;
  }
