-- A failover opens while a master is loading, and ends.
use Rattle.std.proofs.Common.{◌≡◌, ℕ, ◌⊎◌, inl, inr, List, [], ◌∷◌, refl, sym, ap, subst, ◌∙◌}
use Rattle.entry.specs.declared.key.Key.{Key}
use Rattle.entry.specs.declared.entry.Entry.{Entry}
use Rattle.entry.specs.Bag.{IsAmong}
use Rattle.entry.specs.Meaning.{IsOfKey}
use Rattle.log_bytes.specs.log_laws.Memory.{LogSet, Pass}
use Rattle.log_bytes.specs.log_laws.Text.{Text}
use Rattle.log_bytes.specs.log_laws.Shown.{Shown}
use Rattle.log_bytes.specs.log_laws.Data.{Calm, FailData, new_of}
use Rattle.log_bytes.specs.log_laws.Steps.{failing, MayFail}
use Rattle.log_bytes.proofs.log_laws.Failing.{failing_is_held, mended_is_held}
use Rattle.log_memory.specs.Loading.{IsLoading, LoadingFails, LoadingMends}
use Rattle.log_memory.specs.Memory.{FailMemory, entries_in, log_ids, log_set_of}
use Rattle.log_memory.specs.Steps.{stopped}
use Rattle.log_memory.proofs.Failing.{left_had, left_tracked, left_around}
use Rattle.log_memory.proofs.Ids.{ids_out, in_digest, in_survivors, new_given}
use Rattle.log_memory.proofs.Knowing.{mend_knows}
use Rattle.log_memory.proofs.LoadingOps.{goes_on}

module _ (d : FailData) (m : FailMemory) (p : Shown) (b : ℕ) (i : IsLoading d m p) (may : MayFail d) where
  abbrev e : FailData
  e = failing d b

  abbrev log : LogSet
  log = log_set_of d m i.texts

  abbrev left : List ℕ
  left = log_ids e (stopped m)

  none_survives : (s : ℕ) → IsAmong s m.pass.survivors → ⊥
  none_survives s c = subst (λ (x : Pass). IsAmong s x.survivors) i.idle.pass c

  within : (s : ℕ) → IsAmong s left → IsAmong s (log_ids d m)
  within s c = elim (ids_out e (stopped m) s c) as (λ _. IsAmong s (log_ids d m)) [
    | inl l ↦ in_digest d m s l
    | inr (inl never) ↦ absurd never
    | inr (inr l) ↦ in_survivors d m s l
  ]

  -- the new head of a roll has no entries
  stays : (s : ℕ) → IsAmong s (log_ids d m)
      → IsAmong s left ⊎ ((f : Entry) (k : Key) → IsOfKey k f → IsAmong f (m.images s) → ⊥)
  stays s c = elim (ids_out d m s c)
      as (λ _. IsAmong s left ⊎ ((f : Entry) (k : Key) → IsOfKey k f → IsAmong f (m.images s) → ⊥)) [
        | inl l ↦ inl (in_digest e (stopped m) s l)
        | inr (inl l) ↦ (
            let n = new_given (new_of d.mode) s l in
            inr (λ f k at a.
            subst (λ (es : List Entry). IsAmong f es)
            (ap (entries_in i.texts) (sym n.2)
            ∙ ap (λ (t : Text). t.entries) (i.held.logged.new_text n.0 (inl n.1)))
            (i.around.texted s f k c (none_survives s) at a)))
        | inr (inr l) ↦ inl (in_survivors e (stopped m) s l)
      ]

  some : b ∷ d.failed ≡ [] → ⊥
  some none = cc

  fails : IsLoading e (stopped m) p
  fails = record {
    texts = i.texts;
    held = failing_is_held d i.texts p b i.held may;
    begins = i.begins;
    numbers = i.numbers;
    stands = i.stands;
    new = λ n never. absurd (cc);
    rolling = λ n never. absurd (cc);
    empty = i.empty;
    blank = i.blank;
    real = λ is. absurd (elim is as (λ _. ⊥) [ inl calm ↦ cc | inr repairs ↦ cc ]);
    only = λ k s f none l at. i.only k s f none (left_had log left within stays s f l) at;
    tracked = left_tracked log left within stays m.pass m.index d.opening.contents i.tracked;
    around = left_around log left within stays m.pass d.opening.contents d.opening.safe d.next i.around;
    recorded = λ n never. absurd (cc);
    repairs = λ never. absurd (cc);
    images = λ s c. i.images s (within s c);
    repaired = i.repaired;
    whole = record { one = λ none. absurd (some none); failed = λ failing none. some none };
    idle = record { pass = i.idle.pass; rest = i.idle.rest; commits = refl; waiting = i.idle.waiting };
  }

pub loading_fails : LoadingFails
loading_fails d m p b i may = fails d m p b i may

-- ---- the end of a failover

pub loading_mends : LoadingMends
loading_mends d m p i knows repairs = (
  goes_on d m p p i d.counts d.shut d.took Calm 0 (sym (ap new_of repairs)) (λ _. inr repairs) (λ never. absurd (cc))
      (λ never. absurd (cc)) (mended_is_held d i.texts p i.held knows.log repairs),
  mend_knows d m p knows,
)
