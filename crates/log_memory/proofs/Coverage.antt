-- A log that memory tracks is covered.
use Rattle.std.proofs.Common.{ℕ, inl, inr}
use Rattle.entry.specs.declared.key.Key.{Key}
use Rattle.entry.specs.declared.entry.Object.{Object as ObjectValue}
use Rattle.entry.specs.declared.entry.Entry.{Entry}
use Rattle.entry.specs.declared.entry.Entry.TheVariants.{Object}
use Rattle.entry.specs.Meaning.{IsOfKey}
use Rattle.log_bytes.specs.log_laws.Memory.{LogSet, ImagesHave, SegmentHas, LogHas}
use Rattle.log_bytes.specs.log_laws.Tracked.{IsBuried}
use Rattle.log_bytes.proofs.log_laws.TrackedBags.{in_segment, between_clean, between_means}
use Rattle.log_bytes.specs.log_laws.Shown.{Shown}
use Rattle.log_bytes.specs.log_laws.Data.{FailData}
use Rattle.log_bytes.proofs.log_laws.Holding.{replicas_are_texts}
use Rattle.log_memory.specs.Covered.{map_of, IsInLogBag, image_bag, log_bag, HasGrave, MayName, IsCovered}
use Rattle.log_memory.specs.Intact.{IsIntact}
use Rattle.log_memory.specs.Laws.{IntactIsCovered}
use Rattle.log_memory.specs.Memory.{FailMemory, log_ids, log_set_of}

module _ (d : FailData) (m : FailMemory) (p : Shown) (i : IsIntact d m p) where
  abbrev log : LogSet
  log = log_set_of d m i.log.texts

  log_from : (s : ℕ) (e : Entry) → IsInLogBag d m p s e → SegmentHas log s e
  log_from s e (inl h) = record { counts = h.0; among = inl h.1 }
  log_from s e (inr h) = record {
    counts = h.counts;
    among = inr (replicas_are_texts d i.log.texts p h.backup s h.replica e i.log.held h.there h.held);
  }

  image_in : (e : Entry) (k : Key) → IsOfKey k e → image_bag d m e → LogHas log e
  image_in e k at h = (h.0, in_segment log h.0 e h.1)

  log_to : (e : Entry) (k : Key) → IsOfKey k e → ImagesHave (log_ids d m) m.images e → log_bag d m p e
  log_to e k at h = (h.0, inl (h.1.counts, h.1.among))

  log_in : (e : Entry) (k : Key) → IsOfKey k e → log_bag d m p e → LogHas log e
  log_in e k at h = (h.0, log_from h.0 e h.1)

  grave_of : (s : ℕ) (o : ObjectValue) → IsBuried (log_ids d m) m.images m.pass s o → HasGrave d m s o
  grave_of s o b = record {
    grave = b.grave;
    of_key = b.of_key;
    of_version = b.of_version;
    stands = b.stands;
    names = elim b.names as (λ _. MayName m s o b.grave.segment) [
      | inl same ↦ inl same
      | inr c ↦ inr (c.victim, c.survivor, c.copy)
    ];
  }

  covered : IsCovered d m p
  covered = record {
    image_clean = between_clean log m.pass m.index (map_of d) i.tracked (image_bag d m) (λ e k at h. h) image_in;
    log_clean = between_clean log m.pass m.index (map_of d) i.tracked (log_bag d m p) log_to log_in;
    image_meaning = between_means log m.pass m.index (map_of d) i.tracked (image_bag d m) (λ e k at h. h) image_in;
    log_meaning = between_means log m.pass m.index (map_of d) i.tracked (log_bag d m p) log_to log_in;
    dead = λ s o h dead. grave_of s o (i.tracked.buried s o (log_from s (Object o) h) dead);
  }

pub intact_is_covered : IntactIsCovered
intact_is_covered d m p i = covered d m p i
