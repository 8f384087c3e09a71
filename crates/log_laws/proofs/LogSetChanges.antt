-- What is tracked stays so when texts change, and when segments without objects and tombstones join the log set.
use Rattle.std.proofs.Common.{◌≡◌, ℕ, ◌<◌, ◌≤◌, ◌⊎◌, inl, inr, List, refl, sym, subst, arith}
use Rattle.entry.specs.declared.key.Key.{Key}
use Rattle.entry.specs.declared.entry.Object.{Object as ObjectValue}
use Rattle.entry.specs.declared.entry.Tombstone.{Tombstone as TombstoneValue}
use Rattle.entry.specs.declared.entry.Entry.{Entry}
use Rattle.entry.specs.declared.entry.Entry.TheVariants.{Object, Tombstone}
use Rattle.entry.specs.Bag.{IsAmong}
use Rattle.entry.specs.Meaning.{Contents, IsOfKey, object_at}
use Rattle.log_laws.specs.Rising.{Texts}
use Rattle.log_laws.specs.Memory.{Place, Index, LogSet, Pass, no_pass, IsAt, SegmentHas, telling, ImagesHave}
use Rattle.log_laws.specs.Memory.{StandsAt}
use Rattle.log_laws.specs.Tracked.{IsCopied, IsTracked, IsPassing, IsAround}
use Rattle.log_laws.proofs.TrackedBags.{buried_again}

-- ---- texts

-- fewer entries in texts, or those of an image once more
module _ (log : LogSet) (text : Texts)
    (from : (s : ℕ) (e : Entry) → IsAmong e (text s) → IsAmong e (log.image s) ⊎ IsAmong e (log.text s)) where
  pub told_in : (s : ℕ) (e : Entry) → SegmentHas (telling log text) s e → SegmentHas log s e
  told_in s e m = record { counts = m.counts; among = elim m.among [ inl a ↦ inl a | inr b ↦ from s e b ] }

  pub texts_changed : (pass : Pass) (index : Index) (contents : Contents) → IsTracked log pass index contents
      → IsTracked (telling log text) pass index contents
  texts_changed pass index contents is = record {
    clean = λ o p a b. is.clean o p (a.0, told_in a.0 (Object o) a.1) (b.0, told_in b.0 (Object p) b.1);
    highest = λ k x h s f m. is.highest k x h s f (told_in s f m);
    found = is.found;
    unindexed = is.unindexed;
    lies = λ k x p h i s o m. is.lies k x p h i s o (told_in s (Object o) m);
    buried = λ s o m. is.buried s o (told_in s (Object o) m);
  }

-- ---- segments

-- What counted counts, with its image and text; what comes has nothing of any key.
pub record IsMore (log new : LogSet) : Type 0 where
  pub counted : (s : ℕ) → IsAmong s log.ids → IsAmong s new.ids
  pub image : (s : ℕ) → IsAmong s log.ids → new.image s ≡ log.image s
  pub text : (s : ℕ) → IsAmong s log.ids → new.text s ≡ log.text s
  pub blank : (s : ℕ) → IsAmong s new.ids
      → IsAmong s log.ids
      ⊎ ((e : Entry) (k : Key) → IsOfKey k e → IsAmong e (new.image s) ⊎ IsAmong e (new.text s) → ⊥)

module _ (log new : LogSet) (more : IsMore log new) where
  entry_was : (s : ℕ) (e : Entry) → IsAmong s log.ids → IsAmong e (new.image s) → IsAmong e (log.image s)
  entry_was s e c m = subst (λ (es : List Entry). IsAmong e es) (more.image s c) m

  entry_then : (s : ℕ) (e : Entry) → IsAmong s log.ids → IsAmong e (log.image s) → IsAmong e (new.image s)
  entry_then s e c m = subst (λ (es : List Entry). IsAmong e es) (sym (more.image s c)) m

  pub was_in : (s : ℕ) (e : Entry) (k : Key) → IsOfKey k e → SegmentHas new s e → SegmentHas log s e
  was_in s e k at m = elim (more.blank s m.counts) [
    | inl c ↦ record {
      counts = c;
      among = elim m.among [
        | inl a ↦ inl (entry_was s e c a)
        | inr t ↦ inr (subst (λ (es : List Entry). IsAmong e es) (more.text s c) t)
      ];
    }
    | inr none ↦ absurd (none e k at m.among)
  ]

  have_then : (ids : List ℕ) (e : Entry) → ((s : ℕ) → IsAmong s ids → IsAmong s log.ids) → ImagesHave ids log.image e
      → ImagesHave ids new.image e
  have_then ids e within m =
      let among = entry_then m.0 e (within m.0 m.1.counts) m.1.among in
      (m.0, record { counts = m.1.counts; among = among })

  image_was : (s : ℕ) (e : Entry) (k : Key) → IsOfKey k e → IsAmong s new.ids → IsAmong e (new.image s)
      → IsAmong s log.ids × IsAmong e (log.image s)
  image_was s e k at c m =
      elim (more.blank s c) [ inl d ↦ (d, entry_was s e d m) | inr none ↦ absurd (none e k at (inl m)) ]

  at_then : (s i : ℕ) (e : Entry) → IsAmong s log.ids → IsAt (log.image s) i e → IsAt (new.image s) i e
  at_then s i e c m = subst (λ (es : List Entry). IsAt es i e) (sym (more.image s c)) m

  at_was : (s i : ℕ) (e : Entry) → IsAmong s log.ids → IsAt (new.image s) i e → IsAt (log.image s) i e
  at_was s i e c m = subst (λ (es : List Entry). IsAt es i e) (more.image s c) m

  module _ (pass : Pass) (survive : (s : ℕ) → IsAmong s pass.survivors → IsAmong s log.ids) where
    recopied : (s z : ℕ) (o : ObjectValue) → IsCopied log.image pass s z o → IsCopied new.image pass s z o
    recopied s z o c = record {
      victim = c.victim;
      survivor = c.survivor;
      copy = entry_then z (Object o) (survive z c.survivor) c.copy;
    }

    pub more_tracked : (index : Index) (contents : Contents) → IsTracked log pass index contents
        → IsTracked new pass index contents
    more_tracked index contents is = record {
      clean = λ o p a b.
          is.clean o p (a.0, was_in a.0 (Object o) o.key refl a.1) (b.0, was_in b.0 (Object p) p.key refl b.1);
      highest = λ k x h s f m at. is.highest k x h s f (was_in s f k at m) at;
      found = λ k x h. let f = is.found k x h in record {
        place = f.place;
        indexed = f.indexed;
        counts = more.counted f.place.segment f.counts;
        stands = at_then f.place.segment f.place.position (object_at k x) f.counts f.stands;
      };
      unindexed = is.unindexed;
      lies = λ k x p h i s o m same. elim (is.lies k x p h i s o (was_in s (Object o) o.key refl m) same) [
        | inl e ↦ inl e
        | inr c ↦ inr (recopied s p.segment o c)
      ];
      buried = λ s o m dead.
          let b = is.buried s o (was_in s (Object o) o.key refl m) dead in
          buried_again log.ids new.ids log.image new.image pass pass s o b (
            b.stands.0,
            record {
              counts = more.counted b.stands.0 b.stands.1.counts;
              among = entry_then b.stands.0 (Tombstone b.grave) b.stands.1.counts b.stands.1.among;
            },
          )
          (elim b.names [ inl e ↦ inl e | inr c ↦ inr (recopied s b.grave.segment o c) ]);
    }

    -- no victim's tombstone names what comes
    pub more_passing : (index : Index) (rest : List Place) → IsPassing log.ids log.image pass index rest
        → ((p : Place) (t : TombstoneValue) → IsAmong p.segment pass.victims
        → StandsAt log.image p (Tombstone t) → IsAmong t.segment new.ids
        → IsAmong t.segment log.ids)
        → IsPassing new.ids new.image pass index rest
    more_passing index rest open_pass old = record {
      victims_count = λ s m. more.counted s (open_pass.victims_count s m);
      survivors_count = λ s m. more.counted s (open_pass.survivors_count s m);
      disjoint = open_pass.disjoint;
      copies = λ s e k c m at. have_then pass.victims e open_pass.victims_count
          (open_pass.copies s e k c (entry_was s e (survive s c) m) at);
      live = open_pass.live;
      carried = λ p t victim at named.
          let counts = open_pass.victims_count p.segment victim in
          let was = at_was p.segment p.position (Tombstone t) counts at in
          elim (open_pass.carried p t victim was (old p t victim was named)) [
            | inl m ↦ inl m
            | inr c ↦ inr (have_then pass.survivors (Tombstone t) survive c)
          ];
    }

    pub more_around : (contents : Contents) (safe next later : ℕ) → IsAround log pass contents safe next → next ≤ later
        → ((s : ℕ) → IsAmong s new.ids → IsAmong s log.ids ⊎ (s < later)) → IsAround new pass contents safe later
    more_around contents safe next later is le below = record {
      below = λ s c. elim (below s c) as (λ _. s < later) [
        | inl d ↦ (let lt = is.below s d in omega arith)
        | inr lt ↦ lt
      ];
      named_below = λ s t c m.
          let w = image_was s (Tombstone t) t.key refl c m in
          let lt = is.named_below s t w.0 w.1 in omega arith;
      versions = λ k h s f m at. is.versions k h s f (was_in s f k at m) at;
      texted = λ s e k c not at m.
          let w = image_was s e k at c m in
          subst (λ (es : List Entry). IsAmong e es) (sym (more.text s w.0)) (is.texted s e k w.0 not at w.1);
    }

-- ---- passes

-- without a pass open another may be
pub begun_tracked : (log : LogSet) (index : Index) (contents : Contents) → IsTracked log no_pass index contents
    → (pass : Pass) → IsTracked log pass index contents
begun_tracked log index contents is pass = record {
  clean = is.clean;
  highest = is.highest;
  found = is.found;
  unindexed = is.unindexed;
  lies = λ k x p h i s o m same. elim (is.lies k x p h i s o m same) [ inl e ↦ inl e | inr c ↦ absurd c.victim ];
  buried = λ s o m dead.
      let b = is.buried s o m dead in
      buried_again log.ids log.ids log.image log.image no_pass pass s o b b.stands
      (elim b.names [ inl e ↦ inl e | inr c ↦ absurd c.victim ]);
}
