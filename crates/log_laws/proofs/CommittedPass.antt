-- The commit of a pass whose cursor is at its end: the victims leave the log set.
use Rattle.std.proofs.Common.{◌≡◌, ℕ, inl, inr, List, [], sym, subst}
use Rattle.entry.specs.declared.entry.Object.{Object as ObjectValue}
use Rattle.entry.specs.declared.entry.Tombstone.{Tombstone as TombstoneValue}
use Rattle.entry.specs.declared.entry.Entry.{Entry}
use Rattle.entry.specs.declared.entry.Entry.TheVariants.{Object, Tombstone}
use Rattle.entry.specs.Bag.{IsAmong}
use Rattle.entry.specs.Meaning.{Contents}
use Rattle.log_laws.specs.Memory.{Index, LogSet, Pass, no_pass, SegmentHas, ImagesHave, counting}
use Rattle.log_laws.specs.Tracked.{IsBuried, IsTracked, IsPassing}
use Rattle.log_laws.proofs.ImageLists.{among_tells, place_of}
use Rattle.log_laws.proofs.Premises.{IsLess}
use Rattle.log_laws.proofs.TrackedBags.{buried_again}

module _ (log : LogSet) (pass : Pass) (index : Index) (contents : Contents) (left : List ℕ)
    (is : IsTracked log pass index contents) (done : IsPassing log.ids log.image pass index [])
    (less : IsLess log.ids pass left) where
  abbrev after : LogSet
  after = counting log left

  was_in : (s : ℕ) (e : Entry) → SegmentHas after s e → SegmentHas log s e
  was_in s e m = record { counts = less.from s m.counts; among = m.among }

  -- a tombstone that names a segment that stays is in one
  grave_left : (t : TombstoneValue) → IsAmong t.segment log.ids → ImagesHave log.ids log.image (Tombstone t)
      → ImagesHave left log.image (Tombstone t)
  grave_left t named m = elim (among_tells m.0 pass.victims) [
    | inl victim ↦ (
        let i = place_of (log.image m.0) (Tombstone t) m.1.among in
        elim (done.carried (record { segment = m.0; position = i.0 }) t victim i.1 named) [
          | inl never ↦ absurd never
          | inr c ↦ (
              let stays = less.stays c.0 (done.survivors_count c.0 c.1.counts) (done.disjoint c.0 c.1.counts) in
              (c.0, record { counts = stays; among = c.1.among }))
        ])
    | inr stays ↦ (m.0, record { counts = less.stays m.0 m.1.counts stays; among = m.1.among })
  ]

  left_buried : (s : ℕ) (o : ObjectValue) → IsAmong s left → IsBuried log.ids log.image pass s o
      → IsBuried left log.image no_pass s o
  left_buried s o counts b =
      let same : b.grave.segment ≡ s = elim b.names [ inl e ↦ e | inr c ↦ absurd (less.gone s counts c.victim) ] in
      buried_again log.ids left log.image log.image pass no_pass s o b
      (grave_left b.grave (subst (λ (y : ℕ). IsAmong y log.ids) (sym same) (less.from s counts)) b.stands) (inl same)

  pub committed : IsTracked after no_pass index contents
  committed = record {
    clean = λ o p a b. is.clean o p (a.0, was_in a.0 (Object o) a.1) (b.0, was_in b.0 (Object p) b.1);
    highest = λ k x h s f m. is.highest k x h s f (was_in s f m);
    found = λ k x h. let f = is.found k x h in record {
      place = f.place;
      indexed = f.indexed;
      counts = less.stays f.place.segment f.counts (λ victim. done.live k f.place f.indexed victim);
      stands = f.stands;
    };
    unindexed = is.unindexed;
    lies = λ k x p h i s o m same. elim (is.lies k x p h i s o (was_in s (Object o) m) same) [
      | inl e ↦ inl e
      | inr c ↦ absurd (less.gone s m.counts c.victim)
    ];
    buried = λ s o m dead. left_buried s o m.counts (is.buried s o (was_in s (Object o) m) dead);
  }
