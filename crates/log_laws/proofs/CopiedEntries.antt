-- The entry at a pass's cursor: a live object moved to a survivor, a kept tombstone carried, anything else dropped.
use Rattle.std.proofs.Common.{◌≡◌, ℕ, ◌⊎◌, inl, inr, List, ◌∷◌, length, refl, sym, ap, subst, ◌∙◌}
use Rattle.std.specs.Prelude.{Some}
use Rattle.entry.specs.declared.key.Key.{Key}
use Rattle.entry.specs.declared.entry.Object.{Object as ObjectValue}
use Rattle.entry.specs.declared.entry.Tombstone.{Tombstone as TombstoneValue}
use Rattle.entry.specs.declared.entry.Entry.{Entry}
use Rattle.entry.specs.declared.entry.Entry.TheVariants.{Object, Tombstone}
use Rattle.entry.specs.Bag.{IsAmong}
use Rattle.entry.specs.Meaning.{Versioned, Contents, IsOfKey, object_at}
use Rattle.log_laws.specs.Covered.{IsLive}
use Rattle.log_laws.specs.Memory.{Place, Index, Images, LogSet, Pass, IsAt, SegmentHas, grown, copied, ImagesHave}
use Rattle.log_laws.specs.Memory.{StandsAt}
use Rattle.log_laws.specs.ImageSteps.{next_place}
use Rattle.log_laws.specs.Tracked.{IsCopied, IsFound, IsTracked, IsPassing}
use Rattle.log_laws.proofs.AddedEntries.{added_copied, copied_grows, buried_grows, found_grows}
use Rattle.log_laws.proofs.ImageLists.{member_differs, among_at, at_one, at_from, grown_in, grown_last, grown_out}
use Rattle.log_laws.proofs.ImageLists.{have_grown}
use Rattle.log_laws.proofs.Premises.{IsSet, IsAdded}
use Rattle.log_laws.proofs.TrackedBags.{found_at, key_tells, one_object, one_object_key}

module _ (log : LogSet) (pass : Pass) (index : Index) (contents : Contents) (first : Place) (rest : List Place)
    (is : IsTracked log pass index contents) (open_pass : IsPassing log.ids log.image pass index (first ∷ rest))
    (victim : IsAmong first.segment pass.victims) where
  -- the place at the cursor has this entry
  abbrev IsFirst : Entry → Type 0
  IsFirst e = StandsAt log.image first e

  -- what the cursor has passed is no longer before it
  later : (p : Place) → (first ≡ p → ⊥) → IsAmong p (first ∷ rest) → IsAmong p rest
  later p not m = elim m [ inl same ↦ absurd (not same) | inr l ↦ l ]

  -- one entry is there
  one_first : (e f : Entry) (p : Place) → IsFirst e → first ≡ p → StandsAt log.image p f → e ≡ f
  one_first e f p here same at =
      at_one (log.image first.segment) first.position e f here
      (subst (λ (q : Place). StandsAt log.image q f) (sym same) at)

  first_in : (e : Entry) → IsFirst e → SegmentHas log first.segment e
  first_in e here =
      record { counts = open_pass.victims_count first.segment victim; among = inl (among_at _ _ _ here) }

  -- ---- the entry copied to a survivor

  module _ (s : ℕ) (survivor : IsAmong s pass.survivors) (e : Entry) (here : IsFirst e) where
    abbrev then_images : Images
    then_images = grown log.image s e

    added : IsAdded log (copied log s e) s e
    added = added_copied log s e

    -- each entry was in the log, if not in that segment
    known : (z : ℕ) (f : Entry) → SegmentHas (copied log s e) z f → (y : ℕ) × SegmentHas log y f
    known z f m = elim (added.out z f m) [
      | inl l ↦ (z, l)
      | inr w ↦ (first.segment, subst (λ (g : Entry). SegmentHas log first.segment g) w.1 (first_in e here))
    ]

    then_copies : (z : ℕ) (f : Entry) (q : Key) → IsAmong z pass.survivors → IsAmong f (then_images z) → IsOfKey q f
        → ImagesHave pass.victims then_images f
    then_copies z f q c m key = elim (grown_out log.image s e z f m) [
      | inl a ↦ have_grown log.image s e pass.victims f (open_pass.copies z f q c a key)
      | inr w ↦ (
        first.segment,
        record {
          counts = victim;
          among = subst (λ (g : Entry). IsAmong g (then_images first.segment)) w.1
              (grown_in log.image s e first.segment e (among_at _ _ _ here));
        },
      )
    ]

    -- victims' images stay
    was_at : (p : Place) (f : Entry) → IsAmong p.segment pass.victims → StandsAt then_images p f
        → StandsAt log.image p f
    was_at p f in_victim at = at_from log.image s _ p.segment p.position f
        (member_differs pass.victims p.segment s in_victim (open_pass.disjoint s survivor)) at

  -- ---- a live object, at its place in the index, moved

  module _ (s : ℕ) (survivor : IsAmong s pass.survivors) (k : Key) (x : Versioned) (present : contents k ≡ Some x)
      (indexed : index k ≡ Some first) (moved : Index) (to : IsSet index moved k (Some (next_place log.image s))) where
    abbrev live : Entry
    live = object_at k x

    first_at : IsFirst live
    first_at =
        let f = is.found k x present in
        let i = f.indexed in
        let same : f.place ≡ first = cc in
        subst (λ (q : Place). StandsAt log.image q live) same f.stands

    is_added : IsAdded log (copied log s live) s live
    is_added = added_copied log s live

    -- an object of the key and of what it has
    the_object : (q : Key) (y : Versioned) → q ≡ k → y ≡ x → object_at q y ≡ live
    the_object q y same one = λ i. object_at (same i) (one i)

    live_found : (q : Key) (y : Versioned) → contents q ≡ Some y → IsFound log.ids (grown log.image s live) moved q y
    live_found q y h = elim (key_tells q k) [
      | inl same ↦ (
          let e = ap contents same in
          let one : y ≡ x = cc in
          record {
            place = next_place log.image s;
            indexed = ap moved same ∙ to.here;
            counts = open_pass.survivors_count s survivor;
            stands = subst (λ (e : Entry). IsAt (grown log.image s live s) (length (log.image s)) e)
                (sym (the_object q y same one)) is_added.last;
          })
      | inr other ↦ found_grows log (copied log s live) s live is_added pass index moved q y (to.there q other)
          (is.found q y h)
    ]

    live_lies : (q : Key) (y : Versioned) (p : Place) → contents q ≡ Some y → moved q ≡ Some p → (z : ℕ)
        (o : ObjectValue) → SegmentHas (copied log s live) z (Object o) → Object o ≡ object_at q y
        → (p.segment ≡ z) ⊎ IsCopied (grown log.image s live) pass z p.segment o
    live_lies q y p h i z o m same = elim (key_tells q k) [
      | inl here ↦ (
          let e = ap moved here in
          let now = to.here in
          let c = ap contents here in
          let place : next_place log.image s ≡ p = cc in
          let segment : s ≡ p.segment = ap (λ (q : Place). q.segment) place in
          let one : y ≡ x = cc in
          let it : Object o ≡ live = same ∙ the_object q y here one in
          elim (is_added.out z (Object o) m) [
            | inl l ↦ elim (is.lies k x first present indexed z o l it) [
              | inl at ↦ inr (record {
                victim = subst (λ (w : ℕ). IsAmong w pass.victims) at victim;
                survivor = subst (λ (w : ℕ). IsAmong w pass.survivors) segment survivor;
                copy = subst (λ (w : ℕ). IsAmong (Object o) (grown log.image s live w)) segment
                    (subst (λ (e : Entry). IsAmong e (grown log.image s live s)) (sym it)
                    (grown_last log.image s live));
              })
              | inr c ↦ absurd (open_pass.disjoint first.segment c.survivor victim)
            ]
            | inr w ↦ inl (sym segment ∙ sym w.0)
          ])
      | inr other ↦ elim (is_added.out z (Object o) m) [
        | inl l ↦ elim (is.lies q y p h (sym (to.there q other) ∙ i) z o l same) [
          | inl e ↦ inl e
          | inr c ↦ inr (copied_grows log (copied log s live) s live is_added pass z p.segment o c)
        ]
        | inr w ↦ absurd (other (sym (one_object_key _ _ (w.1 ∙ same))))
      ]
    ]

    pub live_copied : IsTracked (copied log s live) pass moved contents
    live_copied =
        let all = known s survivor live first_at in
        record {
          clean = λ o p a b. is.clean o p (all a.0 (Object o) a.1) (all b.0 (Object p) b.1);
          highest = λ q y h z f m. let l = all z f m in is.highest q y h l.0 f l.1;
          found = live_found;
          unindexed = λ q gone.
              to.there q (λ same. let e = ap contents same in absurd (cc)) ∙ is.unindexed q gone;
          lies = live_lies;
          buried = λ z o m dead. elim (is_added.out z (Object o) m) [
            | inl l ↦ buried_grows log (copied log s live) s live is_added pass z o (is.buried z o l dead)
            | inr w ↦ absurd (dead (subst (λ (b : ObjectValue). IsLive contents b) (one_object _ o w.1) present))
          ];
        }

    live_rest : (q : Key) (p : Place) → moved q ≡ Some p → IsAmong p.segment pass.victims → IsAmong p rest
    live_rest q p i in_victim = elim (key_tells q k) [
      | inl here ↦ (
          let e = ap moved here in
          let now = to.here in
          let place : next_place log.image s ≡ p = cc in
          absurd (member_differs pass.victims p.segment s in_victim (open_pass.disjoint s survivor)
          (ap (λ (q : Place). q.segment) (sym place))))
      | inr other ↦ (
          let was = sym (to.there q other) ∙ i in
          let f = found_at log pass index contents is q p was in
          later p
          (λ same. other (sym (one_object_key _ _ (one_first live (object_at q f.has) p first_at same f.stands))))
          (open_pass.live q p was in_victim))
    ]

    pub live_passing : IsPassing log.ids (grown log.image s live) pass moved rest
    live_passing = record {
      victims_count = open_pass.victims_count;
      survivors_count = open_pass.survivors_count;
      disjoint = open_pass.disjoint;
      copies = then_copies s survivor live first_at;
      live = live_rest;
      carried = λ p t in_victim at named.
          let was = was_at s survivor live first_at p (Tombstone t) in_victim at in
          elim (open_pass.carried p t in_victim was named) [
            | inl m ↦ inl (later p
                (λ same. let e = one_first live (Tombstone t) p first_at same was in absurd (cc)) m)
            | inr c ↦ inr (have_grown log.image s live pass.survivors (Tombstone t) c)
          ];
    }

  -- ---- a kept tombstone, carried

  module _ (s : ℕ) (survivor : IsAmong s pass.survivors) (t : TombstoneValue) (at : IsFirst (Tombstone t)) where
    abbrev after : LogSet
    after = copied log s (Tombstone t)

    grave_added : IsAdded log after s (Tombstone t)
    grave_added = added_copied log s (Tombstone t)

    was_object : (z : ℕ) (o : ObjectValue) → SegmentHas after z (Object o) → SegmentHas log z (Object o)
    was_object z o m = elim (grave_added.out z (Object o) m) [ inl l ↦ l | inr w ↦ (let e = w.1 in absurd (cc)) ]

    pub grave_copied : IsTracked after pass index contents
    grave_copied = record {
      clean = λ o p a b. is.clean o p (a.0, was_object a.0 o a.1) (b.0, was_object b.0 p b.1);
      highest = λ q y h z f m. let l = known s survivor (Tombstone t) at z f m in is.highest q y h l.0 f l.1;
      found = λ q y h.
          found_grows log after s (Tombstone t) grave_added pass index index q y refl (is.found q y h);
      unindexed = is.unindexed;
      lies = λ q y p h i z o m same. elim (is.lies q y p h i z o (was_object z o m) same) [
        | inl e ↦ inl e
        | inr c ↦ inr (copied_grows log after s (Tombstone t) grave_added pass z p.segment o c)
      ];
      buried = λ z o m dead.
          buried_grows log after s (Tombstone t) grave_added pass z o (is.buried z o (was_object z o m) dead);
    }

    pub grave_passing : IsPassing log.ids (grown log.image s (Tombstone t)) pass index rest
    grave_passing = record {
      victims_count = open_pass.victims_count;
      survivors_count = open_pass.survivors_count;
      disjoint = open_pass.disjoint;
      copies = then_copies s survivor (Tombstone t) at;
      live = λ q p i in_victim.
          let f = found_at log pass index contents is q p i in
          later p
          (λ same. let e = one_first (Tombstone t) (object_at q f.has) p at same f.stands in absurd (cc))
          (open_pass.live q p i in_victim);
      carried = λ p u in_victim now named.
          let was = was_at s survivor (Tombstone t) at p (Tombstone u) in_victim now in
          elim (open_pass.carried p u in_victim was named) [
            | inl m ↦ elim m [
              | inl same ↦ inr (
                s,
                record {
                  counts = survivor;
                  among = subst (λ (e : Entry). IsAmong e (grown log.image s (Tombstone t) s))
                      (one_first (Tombstone t) (Tombstone u) p at same was) (grown_last log.image s (Tombstone t));
                },
              )
              | inr l ↦ inl l
            ]
            | inr c ↦ inr (have_grown log.image s (Tombstone t) pass.survivors (Tombstone u) c)
          ];
    }

  -- ---- an entry that is not kept, dropped

  module _ (e : Entry) (at : IsFirst e) (unnamed : (o : ObjectValue) → e ≡ Object o → index o.key ≡ Some first → ⊥)
      (gone : (t : TombstoneValue) → e ≡ Tombstone t → IsAmong t.segment log.ids → ⊥) where
    pub dropped_passing : IsPassing log.ids log.image pass index rest
    dropped_passing = record {
      victims_count = open_pass.victims_count;
      survivors_count = open_pass.survivors_count;
      disjoint = open_pass.disjoint;
      copies = open_pass.copies;
      live = λ q p i in_victim.
          let f = found_at log pass index contents is q p i in
          later p
          (λ same. unnamed _ (one_first e (object_at q f.has) p at same f.stands) (i ∙ ap Some (sym same)))
          (open_pass.live q p i in_victim);
      carried = λ p t in_victim now named. elim (open_pass.carried p t in_victim now named) [
        | inl m ↦ inl (later p (λ same. gone t (one_first e (Tombstone t) p at same now) named) m)
        | inr c ↦ inr c
      ];
    }
