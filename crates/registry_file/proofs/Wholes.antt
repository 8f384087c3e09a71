-- The fewest texts that keep what a registry keeps.
use Rattle.std.proofs.Common.{◌≡◌, ℕ, Bool, true, false, cond, eqb, List, [], ◌∷◌, ◌++◌, map}
use Rattle.std.proofs.Common.{max, Option, Some, None, Result, Ok, Err, Vec, refl, sym, ◌∙◌, ap, subst, arith}
use Rattle.std.specs.Prelude.{IfOk, OnOk}
use Rattle.std.specs.Option.{option_and_then, option_map}
use Rattle.std.specs.declared.alloc.Global.{Global}
use Rattle.take_journal.specs.Frames.{AreShort, texts_of}
use Rattle.registry_file.specs.Kept.{Kept, after, begun, file_in, kept_in, kept_of, least_in, or_else}
use Rattle.registry_file.specs.Kept.{replayed}
use Rattle.registry_text.specs.RecordText.{AreReadBack, AreShortTexts, FitsFleet, FleetValue, fleet_text}
use Rattle.registry_text.specs.RecordText.{record_text}
use Rattle.registry_file.specs.Whole.{AreFit, for_master, naming, of_format, raising, records_of, whole_texts}
use Rattle.registry_file.specs.declared.registry.JournalFile.{JournalFile}
use Rattle.registry_text.specs.declared.record.Record.{Record}
use Rattle.registry_file.specs.declared.registry.BackupJournal.{BackupJournal}
use Rattle.registry_file.specs.declared.registry.LeastHead.{LeastHead}
use Rattle.registry_file.specs.declared.registry.Registry.{Registry}

-- ---- several records

abbrev afters : Kept → List Record → Kept
afters k [] = k
afters k (r ∷ rs) = afters (after k r) rs

afters-append : (k : Kept) (rs ss : List Record) → afters k (rs ++ ss) ≡ afters (afters k rs) ss
afters-append k [] ss = refl
afters-append k (r ∷ rs) ss = afters-append (after k r) rs ss

replayed-records : AreReadBack → (k : Kept) (rs : List Record) → AreFit rs
    → replayed k (map record_text rs) ≡ Some (afters k rs)
replayed-records back k [] fit = refl
replayed-records back k (r ∷ rs) fit =
    ap (λ (o : Option Record). option_and_then (λ j. replayed j (map record_text rs)) (option_map (after k) o))
    (back.records r fit.0)
    ∙ replayed-records back (after k r) rs fit.1

-- ---- journals

abbrev with_journals : Kept → List BackupJournal → Kept
with_journals k js = record {
  fleet = k.fleet;
  journal = λ b. or_else (file_in js b) (k.journal b);
  least = k.least;
  master = k.master;
  format = k.format;
}

journal_turn : (o p : Option JournalFile) (t : Bool) (file : JournalFile)
    → or_else o (cond t (Some file) p) ≡ or_else (or_else o (cond t (Some file) None)) p
journal_turn (Some x) p t file = refl
journal_turn None p true file = refl
journal_turn None p false file = refl

afters-journals : (k : Kept) (js : List BackupJournal) → afters k (map naming js) ≡ with_journals k js
afters-journals k [] = refl
afters-journals k (x ∷ xs) =
    afters-journals (after k (naming x)) xs
    ∙ (λ i. let j : Kept = record {
      fleet = k.fleet;
      journal = λ b. journal_turn (file_in xs b) (k.journal b) (eqb x.backup b) x.file i;
      least = k.least;
      master = k.master;
      format = k.format;
    } in j)

-- ---- least heads

abbrev with_leasts : Kept → List LeastHead → Kept
with_leasts k ls = record {
  fleet = k.fleet;
  journal = k.journal;
  least = λ m. max (least_in ls m) (k.least m);
  master = k.master;
  format = k.format;
}

least_turn : (a b h : ℕ) (t : Bool) → max a (cond t (max b h) b) ≡ max (max a (cond t h 0)) b
least_turn a b h true = omega arith
least_turn a b h false = omega arith

afters-leasts : (k : Kept) (ls : List LeastHead) → afters k (map raising ls) ≡ with_leasts k ls
afters-leasts k [] = (λ i. let j : Kept = record {
  fleet = k.fleet;
  journal = k.journal;
  least = λ m. over (k.least m) i;
  master = k.master;
  format = k.format;
} in j)
  where
    over : (n : ℕ) → n ≡ max 0 n
    over n = omega arith
afters-leasts k (x ∷ xs) =
    afters-leasts (after k (raising x)) xs
    ∙ (λ i. let j : Kept = record {
      fleet = k.fleet;
      journal = k.journal;
      least = λ m. least_turn (least_in xs m) (k.least m) x.head (eqb x.master m) i;
      master = k.master;
      format = k.format;
    } in j)

-- ---- the master and the format

abbrev with_master : Kept → Option ℕ → Kept
with_master k o = record { fleet = k.fleet; journal = k.journal; least = k.least; master = o; format = k.format }

abbrev with_format : Kept → Option ℕ → Kept
with_format k o = record { fleet = k.fleet; journal = k.journal; least = k.least; master = k.master; format = o }

afters-master : (k : Kept) (o : Option ℕ) → k.master ≡ None → afters k (for_master o) ≡ with_master k o
afters-master k None none = (λ i. with_master k (none i))
afters-master k (Some n) none = refl

afters-format : (k : Kept) (o : Option ℕ) → k.format ≡ None → afters k (of_format o) ≡ with_format k o
afters-format k None none = (λ i. with_format k (none i))
afters-format k (Some n) none = refl

-- ---- all of them

or_none : (o : Option JournalFile) → or_else o None ≡ o
or_none None = refl
or_none (Some file) = refl

max_none : (n : ℕ) → max n 0 ≡ n
max_none n = omega arith

afters-all : (r : Registry) → afters (begun (kept_in r).fleet) (records_of r) ≡ kept_in r
afters-all r =
    let k = begun (kept_in r).fleet in
    let js = map naming r.journals.items in
    let ls = map raising r.leasts.items in
    let one = with_journals k r.journals.items in
    let two = with_leasts one r.leasts.items in
    let three = with_master two r.master in
    let at_two : afters k (js ++ ls) ≡ two =
    afters-append k js ls ∙ ap (λ (j : Kept). afters j ls) (afters-journals k r.journals.items)
    ∙ afters-leasts one r.leasts.items in
    let at_three : afters k ((js ++ ls) ++ for_master r.master) ≡ three =
    afters-append k (js ++ ls) (for_master r.master)
    ∙ ap (λ (j : Kept). afters j (for_master r.master)) at_two
    ∙ afters-master two r.master refl in
    afters-append k ((js ++ ls) ++ for_master r.master) (of_format r.format)
    ∙ ap (λ (j : Kept). afters j (of_format r.format)) at_three
    ∙ afters-format three r.format refl
    ∙ (λ i. let j : Kept = record {
      fleet = (kept_in r).fleet;
      journal = λ b. or_none (file_in r.journals.items b) i;
      least = λ m. max_none (least_in r.leasts.items m) i;
      master = r.master;
      format = r.format;
    } in j)

kept_whole : AreReadBack → (r : Registry) → FitsFleet (kept_in r).fleet → AreFit (records_of r)
    → kept_of (whole_texts r) ≡ Some (kept_in r)
kept_whole back r fits fit =
    ap (λ (o : Option FleetValue). option_and_then (λ f. replayed (begun f) (map record_text (records_of r))) o)
    (back.fleets (kept_in r).fleet fits)
    ∙ replayed-records back (begun (kept_in r).fleet) (records_of r) fit
    ∙ ap (λ (k : Kept). Some k) (afters-all r)

records_short : AreShortTexts → (rs : List Record) → AreShort (map record_text rs)
records_short short [] = tt
records_short short (r ∷ rs) = (short.records r, records_short short rs)

-- ---- what a call made of all texts

-- the texts, if they are there
module _ {E : Type 0} (r : Registry) (first : List ℕ) (rs : List Record) (result : Result (Vec (Vec ℕ Global) Global) E)
    (named : first ≡ fleet_text (kept_in r).fleet) (all : rs ≡ records_of r) (fits : FitsFleet (kept_in r).fleet) where
  are_whole : (texts : Vec (Vec ℕ Global) Global) → texts_of texts.items ≡ first ∷ map record_text rs
      → texts_of texts.items ≡ whole_texts r
  are_whole texts are = are ∙ (λ i. named i ∷ map record_text (all i))

  pub texts_kept : AreReadBack → IfOk result (λ texts. texts_of texts.items ≡ first ∷ map record_text rs)
      → OnOk result (AreFit rs) → IfOk result (λ texts. kept_of (texts_of texts.items) ≡ Some (kept_in r))
  texts_kept back are fit = by_result result are fit
    where
      by_result : (x : Result (Vec (Vec ℕ Global) Global) E)
          → IfOk x (λ texts. texts_of texts.items ≡ first ∷ map record_text rs)
          → OnOk x (AreFit rs) → IfOk x (λ texts. kept_of (texts_of texts.items) ≡ Some (kept_in r))
      by_result (Ok texts) is fit =
          ap (λ (l : List (List ℕ)). kept_of l) (are_whole texts is)
          ∙ kept_whole back r fits (subst (λ (l : List Record). AreFit l) all fit)
      by_result (Err e) is fit = tt

  pub texts_short : AreShortTexts → IfOk result (λ texts. texts_of texts.items ≡ first ∷ map record_text rs)
      → IfOk result (λ texts. AreShort (texts_of texts.items))
  texts_short short are = by_result result are
    where
      by_result : (x : Result (Vec (Vec ℕ Global) Global) E)
          → IfOk x (λ texts. texts_of texts.items ≡ first ∷ map record_text rs)
          → IfOk x (λ texts. AreShort (texts_of texts.items))
      by_result (Ok texts) is =
          subst (λ (l : List (List ℕ)). AreShort l) (sym (are_whole texts is))
          (short.fleets (kept_in r).fleet fits, records_short short (records_of r))
      by_result (Err e) is = tt
