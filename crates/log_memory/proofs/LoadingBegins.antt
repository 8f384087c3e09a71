-- A master begins to load.
use Rattle.std.proofs.Common.{◌≡◌, ℕ, inl, inr, List, [], refl, sym, ap, subst, ◌∙◌, arith}
use Rattle.std.specs.Prelude.{Some}
use Rattle.std.proofs.lemmas.Option.{same_Some}
use Rattle.entry.specs.declared.key.Key.{Key}
use Rattle.entry.specs.declared.entry.Entry.{Entry}
use Rattle.entry.specs.declared.entry.Entry.TheVariants.{Object, Tombstone}
use Rattle.entry.specs.Bag.{IsAmong}
use Rattle.entry.specs.Meaning.{IsOfKey}
use Rattle.versioned_map.specs.Represents.{Represents}
use Rattle.log_bytes.specs.log_laws.Heads.{Start}
use Rattle.log_bytes.proofs.log_laws.Segments.{no_keys}
use Rattle.log_bytes.specs.log_laws.Memory.{SegmentHas}
use Rattle.log_bytes.specs.log_laws.Text.{Text}
use Rattle.log_bytes.specs.log_laws.Shown.{Shown}
use Rattle.log_bytes.specs.log_laws.Data.{bare, FailConfig, FailData, new_of}
use Rattle.log_bytes.specs.log_laws.Log.{Texts, BasesStand, IsLogHeld}
use Rattle.log_bytes.specs.log_laws.Steps.{restored_start, restored, MayBegin, IsKnown}
use Rattle.log_bytes.proofs.log_laws.NewMaster.{texts_of, first_held, first_known}
use Rattle.log_bytes.specs.Text.{entries_for}
use Rattle.log_memory.specs.Loading.{IsLoading, RestoredIsLoading}
use Rattle.log_memory.specs.Memory.{FailMemory, entries_in, log_ids, log_set_of, data_of, AreImages}
use Rattle.log_memory.specs.Steps.{first_memory}

module _ (c : FailConfig) (safe : ℕ) (p : Shown) (may : MayBegin c p) where
  abbrev d : FailData
  d = restored c safe

  abbrev m : FailMemory
  m = first_memory c safe

  abbrev first : Start
  first = restored_start c.format safe

  abbrev texts : Texts
  texts = texts_of c safe

  held : IsLogHeld d texts p
  held = first_held c safe p may

  known : IsKnown d p
  known = first_known c safe p may

  nothing_stands : Represents safe [] d.opening
  nothing_stands = record {
    meaning = λ k x. (λ h. absurd (cc), λ top. absurd top.held);
    clean = λ o q a b at v. absurd a;
    below = λ k e none l at. absurd l;
    safe = omega arith;
  }

  one : (s : ℕ) → IsAmong s (log_ids d m) → 1 ≡ s
  one s l = elim l [ inl same ↦ same | inr never ↦ absurd never ]

  first_text : texts.text 1 ≡ bare first
  first_text = held.logged.new_text first (inl refl)

  no_entry : (s : ℕ) (e : Entry) (k : Key) → IsOfKey k e → SegmentHas (log_set_of d m texts) s e → ⊥
  no_entry s e k at l = elim l.among as (λ _. ⊥) [
    | inl a ↦ no_keys c.master first e k a at
    | inr t ↦ subst (λ (es : List Entry). IsAmong e es)
        (ap (entries_in texts) (sym (one s l.counts)) ∙ ap (λ (x : Text). x.entries) first_text) t
  ]

  images : AreImages d m texts
  images s l = subst (λ (y : ℕ). m.images y ≡ entries_for c.master y (record (texts.text y) { entries = data_of m y }))
      (one s l)
      (subst (λ (x : Text). m.images 1 ≡ entries_for c.master 1 (record x { entries = data_of m 1 })) (sym first_text)
      refl)

  only : (n : Start) → new_of d.mode ≡ Some n → first ≡ n
  only n is = same_Some first n is

  begun : IsLoading d m p
  begun = record {
    texts = texts;
    held = held;
    begins = refl;
    numbers = λ u never. absurd never;
    stands = λ some. absurd (some refl);
    new = λ n is. subst (λ (x : Start). BasesStand texts x d.opening) (only n is)
        (λ base at. subst (λ (es : List Entry). Represents safe es d.opening) (sym at) nothing_stands);
    rolling = λ n is. ap (λ (x : Start). x.others) (sym (only n is));
    empty = λ _. (refl, refl);
    blank = λ none k. refl;
    real = λ is. absurd (elim is as (λ _. ⊥) [ inl calm ↦ cc | inr repairs ↦ cc ]);
    only = λ k s e none l at. no_entry s e k at l;
    tracked = record {
      clean = λ o q a b. absurd (no_entry a.0 (Object o) o.key refl a.1);
      highest = λ k x h. absurd (cc);
      found = λ k x h. absurd (cc);
      unindexed = λ k h. refl;
      lies = λ k x q h. absurd (cc);
      buried = λ s o l. absurd (no_entry s (Object o) o.key refl l);
    };
    around = record {
      below = λ s l. let same = one s l in omega arith;
      named_below = λ s t l a. absurd (no_keys c.master first (Tombstone t) t.key a refl);
      versions = λ k h s f l at. absurd (no_entry s f k at l);
      texted = λ s e k l not at a. absurd (no_keys c.master first e k a at);
    };
    recorded = λ n is. ap (λ (x : Start). x.safe) (sym (only n is));
    repairs = λ never. absurd (cc);
    images = images;
    repaired = λ s es k e never. absurd never;
    whole = record { one = λ none s. refl; failed = λ fails. absurd (cc) };
    idle = record { pass = refl; rest = refl; commits = refl; waiting = refl };
  }

pub restored_is_loading : RestoredIsLoading
restored_is_loading c safe p may = (
  begun c safe p may,
  record { log = known c safe p may; waiting = λ w never. absurd never },
)
