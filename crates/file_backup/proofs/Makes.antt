-- How a file is begun and opened, and what a crash amid that leaves.
use Rattle.std.proofs.Common.{◌≡◌, ◌⊎◌, inl, inr, ℕ, Bool, List, [], ◌++◌, length, Some, Vec, refl, sym, ◌∙◌, ap}
use Rattle.std.proofs.Common.{subst}
use Rattle.std.proofs.Common.{arith}
use Rattle.std.proofs.lemmas.List.{length-map}
use Rattle.std.specs.declared.alloc.Global.{Global}
use Rattle.take_journal.specs.Crash.{HasVersion, IsBeforeOrAfter, LeftByAppend, LeftByMending, MayBeLeft, TellsDamage}
use Rattle.take_journal.specs.Device.{AnyMoment, LeavesJust}
use Rattle.take_journal.specs.Frames.{recovered, texts_of}
use Rattle.take_journal.specs.Journal.{StandsFor}
use Rattle.take_journal.specs.declared.fault.OpenFault.{OpenFault}
use Rattle.take_journal.specs.declared.fault.OpenFault.TheVariants as open_fault
use Rattle.take_journal.specs.declared.journal.Journal.{Journal}
use Rattle.file_backup.specs.Mirror.{IsJournalOf, LeftByMaking, Shows, TellsWhy, TellsWrong, told}
use Rattle.file_backup.specs.Replay.{IsFirstWrong, Replicas, shown}
use Rattle.file_backup.specs.declared.fault.BackupFault.{BackupFault}
use Rattle.file_backup.specs.declared.fault.BackupFault.TheVariants as fault

-- ---- moments

module _ {D : Type 0} (clock : D → ℕ) (left_since : D → ℕ → List ℕ → Type 0) where
  pub weaker : (P Q : List ℕ → Type 0) (old new : D) → ((file : List ℕ) → P file → Q file)
      → AnyMoment clock left_since P old new → AnyMoment clock left_since Q old new
  weaker P Q old new gives any = record {
    onward = any.onward;
    each = λ file left. gives file (any.each file left);
    adds = λ moment file le left. elim (any.adds moment file le left) [
      | inl was ↦ inl was
      | inr now ↦ inr (gives file now)
    ];
  }

  -- one run after another
  pub then : (P : List ℕ → Type 0) (old mid new : D) → AnyMoment clock left_since P old mid
      → AnyMoment clock left_since P mid new → AnyMoment clock left_since P old new
  then P old mid new one two =
      let on = one.onward in
      record {
        onward = omega (arith, on, two.onward);
        each = λ file left. elim (two.adds (clock old) file on left) [
          | inl was ↦ one.each file was
          | inr now ↦ now
        ];
        adds = λ moment file le left. elim (two.adds moment file (omega (arith, le, on)) left) [
          | inl was ↦ one.adds moment file le was
          | inr now ↦ inr now
        ];
      }

-- ---- a new file

pub none_recovered : recovered [] ≡ []
unfolding recovered
none_recovered = refl

empty_left : MayBeLeft []
empty_left = record { texts = []; end = []; short = tt; split = refl; torn = inl (omega arith) }

-- a file without texts
no_version : (file : List ℕ) → recovered file ≡ [] → HasVersion (recovered file)
no_version file none = subst (λ (l : List (List ℕ)). HasVersion l) (sym none) tt

pub made_by_opening : (p : Replicas) (file : List ℕ) → LeftByMending [] file → LeftByMaking p file
made_by_opening p file left =
    let none = left.same ∙ none_recovered in
    record { shows = inl none; opens = record { version = no_version file none; left = left.left empty_left } }

pub made_by_append : (p : Replicas) (before texts : List (List ℕ)) (file : List ℕ) → before ≡ [] → shown texts ≡ Some p
    → HasVersion texts → LeftByAppend before texts file → LeftByMaking p file
made_by_append p before texts file none shows has left =
    record { shows = either left.texts; opens = record { version = version left.texts; left = left.left } }
  where
    version : IsBeforeOrAfter before texts file → HasVersion (recovered file)
    version (inl same) = no_version file (same ∙ none)
    version (inr are) =
        subst (λ (l : List (List ℕ)). HasVersion l) (sym (are ∙ ap (λ (l : List (List ℕ)). l ++ texts) none)) has

    either : IsBeforeOrAfter before texts file → (recovered file ≡ []) ⊎ Shows p file
    either (inl same) = inl (same ∙ none)
    either (inr are) =
        inr (ap (λ (l : List (List ℕ)). shown l) (are ∙ ap (λ (l : List (List ℕ)). l ++ texts) none) ∙ shows)

-- a file that had no texts has as many as were appended
pub counted_texts : (texts same : List (Vec ℕ Global)) → same ≡ texts → (before after : List (List ℕ)) → before ≡ []
    → after ≡ before ++ texts_of same → length texts ≡ length after
counted_texts texts same is before after none all =
    sym (length-map texts (λ (text : Vec ℕ Global). text.items))
    ∙ ap (λ (ts : List (Vec ℕ Global)). length (texts_of ts)) (sym is)
    ∙ ap (λ (l : List (List ℕ)). length (l ++ texts_of same)) (sym none) ∙ ap length (sym all)

module _ {D : Type 0} (clock : D → ℕ) (left_since : D → ℕ → List ℕ → Type 0) (p : Replicas) where
  -- no call of a device
  pub untouched : (may_leave : D → List ℕ → Type 0)
      → ((device : D) (file : List ℕ) → left_since device (clock device) file → may_leave device file)
      → (device : D) → LeavesJust [] (may_leave device) → AnyMoment clock left_since (LeftByMaking p) device device
  untouched may_leave just_now device just =
      let still : LeftByMaking p [] = record {
        shows = inl none_recovered;
        opens = record { version = no_version [] none_recovered; left = empty_left };
      } in
      record {
        onward = omega arith;
        each = λ file left. subst (λ (f : List ℕ). LeftByMaking p f)
            (sym (just file (just_now device file left))) still;
        adds = λ moment file le left. inl left;
      }

  -- the file is opened
  pub crash_in_opening : (old new : D) → AnyMoment clock left_since (LeftByMending []) old new
      → AnyMoment clock left_since (LeftByMaking p) old new
  crash_in_opening old new any = weaker clock left_since (LeftByMending []) (LeftByMaking p) old new
      (made_by_opening p) any

  -- and then gets its texts
  pub crash_in_making : (before texts : List (List ℕ)) (old mid new : D) → before ≡ [] → shown texts ≡ Some p
      → HasVersion texts → AnyMoment clock left_since (LeftByMending []) old mid → AnyMoment clock left_since
      (LeftByAppend before texts) mid new
      → AnyMoment clock left_since (LeftByMaking p) old new
  crash_in_making before texts old mid new none shows has opening append =
      then clock left_since (LeftByMaking p) old mid new (crash_in_opening old mid opening)
      (weaker clock left_since (LeftByAppend before texts) (LeftByMaking p) mid new
      (λ file left. made_by_append p before texts file none shows has left) append)

module _ {D : Type 0} (contents : D → List ℕ) (may_leave : D → List ℕ → Type 0) (has_failed : D → Bool) where
  -- a journal that stands for texts that show these replicas
  pub journal_of_texts : (p : Replicas) (before texts : List (List ℕ)) (journal : Journal D)
      → StandsFor contents may_leave has_failed journal (before ++ texts) → before ≡ [] → shown texts ≡ Some p
      → HasVersion texts → IsJournalOf contents may_leave has_failed p journal
  journal_of_texts p before texts journal stands none shows has = record {
    ready = stands.ready;
    settled = stands.settled;
    version = subst (λ (l : List (List ℕ)). HasVersion l)
        (sym (stands.texts_are ∙ ap (λ (l : List (List ℕ)). l ++ texts) none)) has;
    shows = ap (λ (l : List (List ℕ)). shown l) (stands.texts_are ∙ ap (λ (l : List (List ℕ)). l ++ texts) none)
        ∙ shows;
  }

-- ---- refusals

pub wrong_file : (f : BackupFault) (texts : List (List ℕ)) (file : List ℕ) → texts ≡ recovered file
    → TellsWrong f texts → TellsWhy f file
wrong_file fault.NoMemory texts file are wrong = tt
wrong_file fault.OtherVersion texts file are wrong = absurd wrong
wrong_file fault.NotBegun texts file are wrong = sym are ∙ wrong
wrong_file (fault.Damaged at) texts file are wrong = absurd wrong
wrong_file (fault.WrongFrame i) texts file are wrong =
    subst (λ (l : List (List ℕ)). IsFirstWrong l i × ((p : Replicas) → shown l ≡ Some p → ⊥)) are wrong
wrong_file fault.Full texts file are wrong = absurd wrong
wrong_file fault.Failed texts file are wrong = absurd wrong

pub told_file : (f : OpenFault) (file : List ℕ) → TellsDamage f file
    → (f ≡ open_fault.OtherVersion → HasVersion (recovered file) → ⊥) → TellsWhy (told f) file
told_file open_fault.NoMemory file tells other = tt
told_file open_fault.OtherVersion file tells other = other refl
told_file (open_fault.Damaged at) file tells other = tells
told_file open_fault.Failed file tells other = tt
