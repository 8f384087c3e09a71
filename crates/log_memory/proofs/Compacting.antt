-- Compaction leaves the log intact.
use Rattle.std.proofs.Common.{refl, ◌≡◌, ℕ, inl, inr, List, sym, ap, subst, ◌∙◌}
use Rattle.std.specs.Prelude.{filter}
use Rattle.entry.specs.declared.entry.Entry.{Entry}
use Rattle.entry.specs.declared.entry.Entry.TheVariants.{Tombstone}
use Rattle.entry.specs.Bag.{IsAmong}
use Rattle.entry.specs.Meaning.{Contents}
use Rattle.entry.specs.Text.{is_data}
use Rattle.log_bytes.specs.log_laws.Compaction.{kept_from, moved_index}
use Rattle.log_bytes.specs.log_laws.Memory.{Images, Index, LogSet, Pass, with_image}
use Rattle.log_bytes.specs.log_laws.Tracked.{IsAround}
use Rattle.log_bytes.proofs.log_laws.CompactedImages.{compacted_tracked, compacted_passing}
use Rattle.log_bytes.proofs.log_laws.KeptEntries.{kept_out, kept_is}
use Rattle.log_bytes.proofs.log_laws.ImageLists.{with_out, image_there}
use Rattle.log_bytes.specs.log_laws.Shown.{Shown}
use Rattle.log_bytes.specs.log_laws.Data.{FailData, state_of}
use Rattle.log_memory.specs.Covered.{map_of}
use Rattle.log_memory.specs.Intact.{IsIntact}
use Rattle.log_memory.specs.Laws.{CompactKeeps}
use Rattle.log_memory.specs.Memory.{FailMemory, log_ids, log_set_of}
use Rattle.log_memory.specs.Steps.{MayCompact}
use Rattle.log_memory.proofs.Openings.{kept_image, one_image}
use Rattle.log_memory.proofs.Sealed.{still_sealed}

-- fewer entries in images
around_fewer : (log : LogSet) (image : Images) (pass : Pass) (contents : Contents) (safe next : ℕ)
    → IsAround log pass contents safe next → ((s : ℕ) (e : Entry) → IsAmong e (image s) → IsAmong e (log.image s))
    → IsAround (record log { image = image }) pass contents safe next
around_fewer log image pass contents safe next is fewer = record {
  below = is.below;
  named_below = λ s t c m. is.named_below s t c (fewer s (Tombstone t) m);
  versions = λ k h s f m. is.versions k h s f
      (record { counts = m.counts; among = elim m.among [ inl a ↦ inl (fewer s f a) | inr b ↦ inr b ] });
  texted = λ s e k c not at m. is.texted s e k c not at (fewer s e m);
}

module _ (d : FailData) (m : FailMemory) (p : Shown) (s : ℕ) (i : IsIntact d m p) (may : MayCompact d m s) where
  abbrev log : LogSet
  log = log_set_of d m i.log.texts

  abbrev ids : List ℕ
  ids = log_ids d m

  abbrev es : List Entry
  es = kept_from ids m.index s 0 (m.images s)

  abbrev moved : Index
  moved = moved_index ids m.images m.index s

  fewer : (z : ℕ) (e : Entry) → IsAmong e (with_image m.images s es z) → IsAmong e (m.images z)
  fewer z e l = elim (with_out m.images s es z e l) as (λ _. IsAmong e (m.images z)) [
    | inl w ↦ subst (λ (y : ℕ). IsAmong e (m.images y)) (sym w.0) (kept_out ids m.index s 0 (m.images s) e w.1)
    | inr w ↦ w.1
  ]

  -- a survivor's image stays
  same_image : (z : ℕ) → IsAmong z m.pass.survivors → with_image m.images s es z ≡ m.images z
  same_image z survivor = image_there m.images s es z
      (λ same. may.no_survivor (subst (λ (y : ℕ). IsAmong y m.pass.survivors) same survivor))

pub compact_keeps : CompactKeeps
compact_keeps d m p s i may =
    let does = kept_is (log_ids d m) m.images m.index s in
    let image = with_image m.images s (es d m p s i may) in (
      record {
        log = i.log;
        tracked = compacted_tracked (log d m p s i may) m.pass m.index (moved d m p s i may) (map_of d) s
            (es d m p s i may) i.tracked does i.passing.survivors_count may.no_survivor;
        passing = compacted_passing (log d m p s i may) m.pass m.index (moved d m p s i may) (map_of d) s
            (es d m p s i may) i.tracked does i.passing.survivors_count may.no_survivor m.rest i.passing
            may.no_victim;
        around = around_fewer (log d m p s i may) image m.pass (map_of d) (state_of d).safe d.next i.around
            (fewer d m p s i may);
        images = one_image d m i.log.texts s (es d m p s i may) i.images
            (λ c. kept_image (log_ids d m) m.index s d.config.master (i.log.texts.text s) (m.images s)
            (i.images s c));
        repaired = λ z xs k e sealed at l. i.repaired z xs k e sealed at (fewer d m p s i may z e l);
        whole = i.whole;
        chosen = i.chosen;
        sealing = still_sealed d d m i.log.texts i.log.texts p p image (moved d m p s i may) m.commits i.sealing
            (same_image d m p s i may) (λ z survivor. refl) (λ z survivor. refl) (λ b z survivor. refl)
            (λ z b survivor took. took);
        rolling = i.rolling;
        committed = λ c.
            let was = i.committed c in
            record {
              real = was.real;
              done = was.done;
              images = λ z survivor. was.images z survivor ∙ sym
                  (ap (filter is_data) (same_image d m p s i may z survivor));
            };
        waiting = record { out = i.waiting.out; below = i.waiting.below; real = i.waiting.real };
        recorded = i.recorded;
        repairs = i.repairs;
        real = i.real;
        past = i.past;
        before = i.before;
      },
      refl,
    )
