-- What a put makes of a journal, and what a crash in it leaves.
use Rattle.std.proofs.Common.{◌≡◌, ◌⊎◌, inl, inr, ℕ, Bool, List, [], ◌∷◌, ◌++◌, Some, sym, ◌∙◌, ap, subst}
use Rattle.std.proofs.lemmas.Option.{none-some}
use Rattle.take_journal.specs.Crash.{HasVersion, IsBeforeOrAfter, LeftByAppend}
use Rattle.take_journal.specs.Device.{AnyMoment}
use Rattle.take_journal.specs.Frames.{recovered}
use Rattle.take_journal.specs.Journal.{StandsFor, device_of}
use Rattle.take_journal.specs.declared.journal.Journal.{Journal}
use Rattle.registry_file.specs.File.{IsJournalOf, LeftByPut, Shows}
use Rattle.registry_file.specs.Kept.{Kept, after, kept_of}
use Rattle.registry_text.specs.RecordText.{record_in, record_text}
use Rattle.registry_text.specs.declared.record.Record.{Record}
use Rattle.registry_file.proofs.Replays.{kept-record}

-- one text more
version_more : (k : Kept) (texts : List (List ℕ)) (text : List ℕ) → kept_of texts ≡ Some k → HasVersion texts
    → HasVersion (texts ++ text ∷ [])
version_more k [] text shows has = absurd (none-some k shows)
version_more k ([] ∷ texts) text shows has = absurd has
version_more k ((x ∷ xs) ∷ texts) text shows has = has

shows_either : (k : Kept) (old file : List ℕ) (r : Record) → Shows k old → record_in (record_text r) ≡ Some r
    → IsBeforeOrAfter (recovered old) (record_text r ∷ []) file → Shows k file ⊎ Shows (after k r) file
shows_either k old file r shows reads (inl same) = inl (ap (λ (l : List (List ℕ)). kept_of l) same ∙ shows)
shows_either k old file r shows reads (inr are) =
    inr (ap (λ (l : List (List ℕ)). kept_of l) are ∙ kept-record k (recovered old) r shows reads)

module _ {D : Type 0} (contents : D → List ℕ) (may_leave : D → List ℕ → Type 0) (has_failed : D → Bool) where
  -- the journal once it has the text
  pub journal_takes : (k j : Kept) (r : Record) (text : List ℕ) (old new : Journal D)
      → IsJournalOf contents may_leave has_failed k old → text ≡ record_text r → record_in (record_text r) ≡ Some r
      → j ≡ after k r → StandsFor contents may_leave has_failed new (recovered (contents (device_of old)) ++ text ∷ [])
      → IsJournalOf contents may_leave has_failed j new
  journal_takes k j r text old new kept text_is reads does stands =
      let before = recovered (contents (device_of old)) in
      let are : recovered (contents (device_of new)) ≡ before ++ record_text r ∷ [] =
      stands.texts_are ∙ ap (λ (t : List ℕ). before ++ t ∷ []) text_is in
      record {
        ready = stands.ready;
        settled = stands.settled;
        version = subst (λ (l : List (List ℕ)). HasVersion l) (sym are)
            (version_more k before (record_text r) kept.shows kept.version);
        shows = ap (λ (l : List (List ℕ)). kept_of l) are ∙ kept-record k before r kept.shows reads
            ∙ ap (λ (x : Kept). Some x) (sym does);
      }

  module _ (clock : D → ℕ) (left_since : D → ℕ → List ℕ → Type 0) (k : Kept) (r : Record) (journal : Journal D)
      (kept : IsJournalOf contents may_leave has_failed k journal) where
    -- what a crash leaves of an append is what it leaves of the put
    pub crash_in_put : (text : List ℕ) (new : D) → text ≡ record_text r → record_in (record_text r) ≡ Some r
        → AnyMoment clock left_since (LeftByAppend (recovered (contents (device_of journal))) (text ∷ []))
        (device_of journal) new
        → AnyMoment clock left_since (LeftByPut k r) (device_of journal) new
    crash_in_put text new text_is reads any = record {
      onward = any.onward;
      each = λ file left. gives file (any.each file left);
      adds = λ moment file le left. elim (any.adds moment file le left) [
        | inl was ↦ inl was
        | inr now ↦ inr (gives file now)
      ];
    }
      where
        before : List (List ℕ)
        before = recovered (contents (device_of journal))

        has_version : (file : List ℕ) → IsBeforeOrAfter before (text ∷ []) file → HasVersion (recovered file)
        has_version file (inl same) = subst (λ (l : List (List ℕ)). HasVersion l) (sym same) kept.version
        has_version file (inr are) =
            subst (λ (l : List (List ℕ)). HasVersion l) (sym are) (version_more k before text kept.shows kept.version)

        gives : (file : List ℕ) → LeftByAppend before (text ∷ []) file → LeftByPut k r file
        gives file left = record {
          shows = shows_either k (contents (device_of journal)) file r kept.shows reads
              (subst (λ (t : List ℕ). IsBeforeOrAfter before (t ∷ []) file) text_is left.texts);
          opens = record { version = has_version file left.texts; left = left.left };
        }
