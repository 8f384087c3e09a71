-- Compaction of one image keeps what is tracked, and what is true of an open pass.
use Rattle.std.proofs.Common.{◌≡◌, ℕ, ◌⊎◌, inl, inr, List, refl, sym, ap, subst, ◌∙◌}
use Rattle.std.specs.Prelude.{Option, Some, None}
use Rattle.std.proofs.lemmas.Bool.{cases_eq}
use Rattle.entry.specs.declared.key.Key.{Key}
use Rattle.entry.specs.declared.entry.Object.{Object as ObjectValue}
use Rattle.entry.specs.declared.entry.Tombstone.{Tombstone as TombstoneValue}
use Rattle.entry.specs.declared.entry.Entry.{Entry}
use Rattle.entry.specs.declared.entry.Entry.TheVariants.{Object, Tombstone}
use Rattle.entry.specs.Bag.{IsAmong}
use Rattle.entry.specs.Meaning.{Versioned, Contents, object_at}
use Rattle.log_laws.specs.Memory.{Place, Index, Images, LogSet, Pass, IsAt, SegmentHas, ImagesHave, with_image}
use Rattle.log_laws.specs.Memory.{StandsAt, replaced}
use Rattle.log_laws.specs.Tracked.{IsCopied, IsBuried, IsFound, IsTracked, IsPassing}
use Rattle.log_laws.proofs.ImageLists.{member_differs, with_out, with_here, with_there, at_here, at_there, at_from}
use Rattle.log_laws.proofs.ImageLists.{have_there}
use Rattle.log_laws.proofs.Premises.{IsCompacted}
use Rattle.log_laws.proofs.TrackedBags.{buried_again, found_at}

module _ (log : LogSet) (pass : Pass) (index moved : Index) (contents : Contents) (s : ℕ) (es : List Entry)
    (is : IsTracked log pass index contents) (does : IsCompacted log.ids log.image index moved s es)
    (survive : (z : ℕ) → IsAmong z pass.survivors → IsAmong z log.ids)
    (no_survivor : IsAmong s pass.survivors → ⊥) where
  abbrev then_images : Images
  then_images = with_image log.image s es

  fewer : (z : ℕ) (e : Entry) → SegmentHas (replaced log s es) z e → SegmentHas log z e
  fewer z e m = record {
    counts = m.counts;
    among = elim m.among [
      | inl a ↦ inl (elim (with_out log.image s es z e a) as (λ _. IsAmong e (log.image z)) [
        | inl w ↦ subst (λ (y : ℕ). IsAmong e (log.image y)) (sym w.0) (does.fewer e w.1)
        | inr w ↦ w.1
      ])
      | inr b ↦ inr b
    ];
  }

  still_copied : (z y : ℕ) (o : ObjectValue) → IsCopied log.image pass z y o → IsCopied then_images pass z y o
  still_copied z y o c = record {
    victim = c.victim;
    survivor = c.survivor;
    copy = with_there log.image s es y (Object o) (member_differs pass.survivors y s c.survivor no_survivor) c.copy;
  }

  grave_stays : (t : TombstoneValue) → IsAmong t.segment log.ids → ImagesHave log.ids log.image (Tombstone t)
      → ImagesHave log.ids then_images (Tombstone t)
  grave_stays t named m = (
    m.0,
    record {
      counts = m.1.counts;
      among = elim (cases_eq m.0 s) [
        | inl same ↦ (
            let was = subst (λ (y : ℕ). IsAmong (Tombstone t) (log.image y)) same m.1.among in
            with_here log.image s es m.0 (Tombstone t) same (does.tombstones t was named))
        | inr other ↦ with_there log.image s es m.0 (Tombstone t) other m.1.among
      ];
    },
  )

  named : (z : ℕ) (o : ObjectValue) → IsAmong z log.ids → (b : IsBuried log.ids log.image pass z o)
      → IsAmong b.grave.segment log.ids
  named z o here b = elim b.names [
    | inl same ↦ subst (λ (y : ℕ). IsAmong y log.ids) (sym same) here
    | inr c ↦ survive b.grave.segment c.survivor
  ]

  still_buried : (z : ℕ) (o : ObjectValue) → IsAmong z log.ids → IsBuried log.ids log.image pass z o
      → IsBuried log.ids then_images pass z o
  still_buried z o here b = buried_again log.ids log.ids log.image then_images pass pass z o b
      (grave_stays b.grave (named z o here b) b.stands)
      (elim b.names [ inl same ↦ inl same | inr c ↦ inr (still_copied z b.grave.segment o c) ])

  -- Where the key's object is now: in the segment in which it was.
  pub record Moved (k : Key) (x : Versioned) (p : Place) : Type 0 where
    pub place : Place
    pub segment : place.segment ≡ p.segment
    pub indexed : moved k ≡ Some place
    pub stands : StandsAt (with_image log.image s es) place (object_at k x)

  moved_to : (k : Key) (x : Versioned) (p : Place) → index k ≡ Some p
      → StandsAt log.image p (object_at k x) → Moved k x p
  moved_to k x p i at = elim (cases_eq p.segment s) [
    | inl same ↦ (
        let was = subst (λ (y : ℕ). IsAt (log.image y) p.position (object_at k x)) same at in
        let j = does.objects k x p i same was in
        record {
          place = record { segment = s; position = j.0 };
          segment = sym same;
          indexed = j.1;
          stands = at_here log.image s es s j.0 (object_at k x) refl j.2;
        })
    | inr other ↦ record {
      place = p;
      segment = refl;
      indexed = does.elsewhere k p i other;
      stands = at_there log.image s es p.segment p.position (object_at k x) other at;
    }
  ]

  found_still : (k : Key) (x : Versioned) → IsFound log.ids log.image index k x → IsFound log.ids then_images moved k x
  found_still k x f = let m = moved_to k x f.place f.indexed f.stands in record {
    place = m.place;
    indexed = m.indexed;
    counts = subst (λ (y : ℕ). IsAmong y log.ids) (sym m.segment) f.counts;
    stands = m.stands;
  }

  lies_still : (k : Key) (x : Versioned) (p : Place) → contents k ≡ Some x → moved k ≡ Some p → (z : ℕ)
      (o : ObjectValue) → SegmentHas (replaced log s es) z (Object o) → Object o ≡ object_at k x
      → (p.segment ≡ z) ⊎ IsCopied then_images pass z p.segment o
  lies_still k x p h to z o m same =
      let f = is.found k x h in
      let n = moved_to k x f.place f.indexed f.stands in
      let i = n.indexed in
      let one : n.place ≡ p = cc in
      let segment : p.segment ≡ f.place.segment = ap (λ (q : Place). q.segment) (sym one) ∙ n.segment in
      elim (is.lies k x f.place h f.indexed z o (fewer z (Object o) m) same) [
        | inl e ↦ inl (segment ∙ e)
        | inr c ↦ inr (subst (λ (y : ℕ). IsCopied then_images pass z y o) (sym segment)
            (still_copied z f.place.segment o c))
      ]

  pub compacted_tracked : IsTracked (replaced log s es) pass moved contents
  compacted_tracked = record {
    clean = λ o p a b. is.clean o p (a.0, fewer a.0 (Object o) a.1) (b.0, fewer b.0 (Object p) b.1);
    highest = λ k x h z f m. is.highest k x h z f (fewer z f m);
    found = λ k x h. found_still k x (is.found k x h);
    unindexed = λ k h. does.nowhere k (is.unindexed k h);
    lies = lies_still;
    buried = λ z o m dead. let n = fewer z (Object o) m in still_buried z o n.counts (is.buried z o n dead);
  }

  -- a pass goes on over the compaction of a segment that it doesn't have
  module _ (rest : List Place) (open_pass : IsPassing log.ids log.image pass index rest)
      (no_victim : IsAmong s pass.victims → ⊥) where
    live_still : (k : Key) (p : Place) → moved k ≡ Some p → (c : Option Place) → index k ≡ c
        → IsAmong p.segment pass.victims → IsAmong p rest
    live_still k p to None e victim = let gone = does.nowhere k e in absurd (cc)
    live_still k p to (Some q) e victim =
        let f = found_at log pass index contents is k q e in
        elim (cases_eq q.segment s) [
          | inl same ↦ (
              let n = moved_to k f.has q e f.stands in
              let i = n.indexed in
              let one : n.place ≡ p = cc in
              let segment : p.segment ≡ s = ap (λ (q : Place). q.segment) (sym one) ∙ n.segment ∙ same in
              absurd (member_differs pass.victims p.segment s victim no_victim segment))
          | inr other ↦ (
              let i = does.elsewhere k q e other in
              let one : q ≡ p = cc in
              open_pass.live k p (e ∙ ap Some one) victim)
        ]

    pub compacted_passing : IsPassing log.ids then_images pass moved rest
    compacted_passing = record {
      victims_count = open_pass.victims_count;
      survivors_count = open_pass.survivors_count;
      disjoint = open_pass.disjoint;
      copies = λ z e q c m key.
          let was = elim (with_out log.image s es z e m) as (λ _. IsAmong e (log.image z)) [
            | inl w ↦ absurd (member_differs pass.survivors z s c no_survivor w.0)
            | inr w ↦ w.1
          ] in
          have_there log.image s es pass.victims e no_victim (open_pass.copies z e q c was key);
      live = λ k p to. live_still k p to (index k) refl;
      carried = λ p t victim at now_named.
          let other = member_differs pass.victims p.segment s victim no_victim in
          let was = at_from log.image s es p.segment p.position (Tombstone t) other at in
          elim (open_pass.carried p t victim was now_named) [
            | inl m ↦ inl m
            | inr c ↦ inr (have_there log.image s es pass.survivors (Tombstone t) no_survivor c)
          ];
    }
