-- A backup's failure leaves the log intact, and so does the end of a failover.
use Rattle.std.proofs.Common.{◌≡◌, ℕ, ◌⊎◌, inl, inr, false, List, [], ◌∷◌, refl, sym, ap, subst, ◌∙◌}
use Rattle.entry.specs.declared.key.Key.{Key}
use Rattle.entry.specs.declared.entry.Entry.{Entry}
use Rattle.entry.specs.declared.entry.Entry.TheVariants.{Object, Tombstone}
use Rattle.entry.specs.Bag.{IsAmong}
use Rattle.entry.specs.Meaning.{Contents, IsOfKey, object_at}
use Rattle.log_bytes.specs.log_laws.Memory.{Index, Pass, LogSet, SegmentHas, counting}
use Rattle.log_bytes.specs.log_laws.Tracked.{IsTracked, IsAround}
use Rattle.log_bytes.proofs.log_laws.ImageLists.{among_at}
use Rattle.log_bytes.proofs.log_laws.TrackedBags.{buried_again}
use Rattle.log_bytes.specs.log_laws.Text.{Text}
use Rattle.log_bytes.specs.log_laws.Shown.{Shown}
use Rattle.log_bytes.specs.log_laws.Data.{Calm, FailData, new_of, state_of}
use Rattle.log_bytes.specs.log_laws.Steps.{failing, MayFail}
use Rattle.log_bytes.proofs.log_laws.Failing.{failing_is_held, failing_is_standing, mended_is_held, mended_is_standing}
use Rattle.log_memory.specs.Covered.{map_of}
use Rattle.log_memory.specs.Intact.{IsIntact, IsIntactWith}
use Rattle.log_memory.specs.Laws.{FailKeeps, MendKeeps}
use Rattle.log_memory.specs.Memory.{FailMemory, entries_in, log_ids, log_set_of}
use Rattle.log_memory.specs.Steps.{stopped}
use Rattle.log_memory.proofs.Ids.{ids_out, in_digest, in_survivors, now_others, new_given}
use Rattle.log_memory.proofs.Pasts.{failing_past, mended_past}
use Rattle.log_memory.proofs.Sealed.{still_sealed}
use Rattle.log_memory.proofs.Taking.{moved_on}

-- ---- segments that have nothing leave the log set

module _ (log : LogSet) (left : List ℕ) (within : (s : ℕ) → IsAmong s left → IsAmong s log.ids)
    (stays : (s : ℕ) → IsAmong s log.ids
    → IsAmong s left ⊎ ((e : Entry) (k : Key) → IsOfKey k e → IsAmong e (log.image s) → ⊥)) where
  pub left_had : (s : ℕ) (e : Entry) → SegmentHas (counting log left) s e → SegmentHas log s e
  left_had s e m = record { counts = within s m.counts; among = m.among }

  -- what has an entry of some key stays
  has_stays : (s : ℕ) (e : Entry) (k : Key) → IsAmong s log.ids → IsOfKey k e → IsAmong e (log.image s) → IsAmong s left
  has_stays s e k c at m = elim (stays s c) as (λ _. IsAmong s left) [
    | inl l ↦ l
    | inr none ↦ absurd (none e k at m)
  ]

  pub left_tracked : (pass : Pass) (index : Index) (contents : Contents) → IsTracked log pass index contents
      → IsTracked (counting log left) pass index contents
  left_tracked pass index contents is = record {
    clean = λ o p a b. is.clean o p (a.0, left_had a.0 (Object o) a.1) (b.0, left_had b.0 (Object p) b.1);
    highest = λ k x h s f m. is.highest k x h s f (left_had s f m);
    found = λ k x h. let f = is.found k x h in record {
      place = f.place;
      indexed = f.indexed;
      counts = has_stays f.place.segment (object_at k x) k f.counts refl (among_at _ _ _ f.stands);
      stands = f.stands;
    };
    unindexed = is.unindexed;
    lies = λ k x p h at s o m. is.lies k x p h at s o (left_had s (Object o) m);
    buried = λ s o m dead.
        let b = is.buried s o (left_had s (Object o) m) dead in
        buried_again log.ids left log.image log.image pass pass s o b (
          b.stands.0,
          record {
            counts = has_stays b.stands.0 (Tombstone b.grave) b.grave.key b.stands.1.counts refl b.stands.1.among;
            among = b.stands.1.among;
          },
        ) b.names;
  }

  pub left_around : (pass : Pass) (contents : Contents) (safe next : ℕ) → IsAround log pass contents safe next
      → IsAround (counting log left) pass contents safe next
  left_around pass contents safe next is = record {
    below = λ s c. is.below s (within s c);
    named_below = λ s t c. is.named_below s t (within s c);
    versions = λ k h s f m. is.versions k h s f (left_had s f m);
    texted = λ s e k c. is.texted s e k (within s c);
  }

-- ---- a failure

module _ (d : FailData) (m : FailMemory) (p : Shown) (b : ℕ) (i : IsIntact d m p) (may : MayFail d) where
  abbrev e : FailData
  e = failing d b

  abbrev log : LogSet
  log = log_set_of d m i.log.texts

  abbrev left : List ℕ
  left = log_ids e (stopped m)

  within : (s : ℕ) → IsAmong s left → IsAmong s (log_ids d m)
  within s c = elim (ids_out e (stopped m) s c) as (λ _. IsAmong s (log_ids d m)) [
    | inl l ↦ in_digest d m s l
    | inr (inl never) ↦ absurd never
    | inr (inr l) ↦ in_survivors d m s l
  ]

  -- the new head of a roll has no entries
  stays : (s : ℕ) → IsAmong s (log_ids d m)
      → IsAmong s left ⊎ ((f : Entry) (k : Key) → IsOfKey k f → IsAmong f (m.images s) → ⊥)
  stays s c = elim (ids_out d m s c)
      as (λ _. IsAmong s left ⊎ ((f : Entry) (k : Key) → IsOfKey k f → IsAmong f (m.images s) → ⊥)) [
        | inl l ↦ inl (in_digest e (stopped m) s l)
        | inr (inl l) ↦ (
            let n = new_given (new_of d.mode) s l in
            inr (λ f k at a.
            subst (λ (es : List Entry). IsAmong f es)
            (ap (entries_in i.log.texts) (sym n.2)
            ∙ ap (λ (t : Text). t.entries) (i.log.held.logged.new_text n.0 (inl n.1)))
            (i.around.texted s f k c (λ survivor. i.chosen.not_new s n.0 survivor n.1 n.2) at a)))
        | inr (inr l) ↦ inl (in_survivors e (stopped m) s l)
      ]

  some : b ∷ d.failed ≡ [] → ⊥
  some none = cc

  failed : IsIntactWith i.past e (stopped m) p
  failed = (
    record {
      log = record {
        texts = i.log.texts;
        held = failing_is_held d i.log.texts p b i.log.held may;
        standing = failing_is_standing d i.log.texts p b i.log.held i.log.standing may;
      };
      tracked = left_tracked log left within stays m.pass m.index (map_of d) i.tracked;
      passing = record {
        victims_count = λ s victim. in_digest e (stopped m) s
            (now_others d.head.start s i.log.held.logged.head.below (i.chosen.victims s victim));
        survivors_count = λ s survivor. in_survivors e (stopped m) s survivor;
        disjoint = i.passing.disjoint;
        copies = i.passing.copies;
        live = i.passing.live;
        carried = λ q t victim at named. i.passing.carried q t victim at (within t.segment named);
      };
      around = left_around log left within stays m.pass (map_of d) (state_of d).safe d.next i.around;
      images = λ s c. i.images s (within s c);
      repaired = i.repaired;
      whole = record { one = λ none. absurd (some none); failed = λ fails none. some none };
      chosen = record {
        victims = i.chosen.victims;
        some = i.chosen.some;
        outside = i.chosen.outside;
        not_new = λ s n survivor never. absurd (cc);
      };
      sealing = still_sealed d e m i.log.texts i.log.texts p p m.images m.index false i.sealing
          (λ s c. refl) (λ s c. refl) (λ s c. refl) (λ c s at. refl) (λ s c at took. took);
      rolling = λ n never. absurd (cc);
      committed = λ never. absurd (cc);
      waiting = record {
        out = λ w at c. i.waiting.out w at (within w.segment c);
        below = i.waiting.below;
        real = i.waiting.real;
      };
      recorded = λ n never. absurd (cc);
      repairs = λ never. absurd (cc);
      real = λ is. absurd (elim is as (λ _. ⊥) [ inl calm ↦ cc | inr repairs ↦ cc ]);
      past = i.past;
      before = failing_past d i.log.texts b i.past i.before;
    },
    refl,
  )

pub fail_keeps : FailKeeps
fail_keeps d m p b i may = failed d m p b i may

-- ---- the end of a failover

pub mend_keeps : MendKeeps
mend_keeps d m p i known repairs =
    moved_on d m p i d.counts d.shut d.took Calm 0 p (sym (ap new_of repairs)) (λ _. inr repairs) (λ never. absurd (cc))
    (λ never. absurd (cc)) (λ s b no took. took) (λ b s no. refl)
    (mended_is_held d i.log.texts p i.log.held known repairs)
    (mended_is_standing d i.log.texts p i.log.held i.log.standing known repairs)
    (mended_past d i.log.texts i.past repairs i.before)
