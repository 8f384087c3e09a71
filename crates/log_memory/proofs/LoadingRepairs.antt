-- A loading master goes on to load once a repair is taken.
use Rattle.std.proofs.Common.{◌≡◌, ℕ, ◌<◌, ◌≤◌, List, [], ◌++◌, length, refl, sym, ap, subst, ◌∙◌}
use Rattle.std.specs.Prelude.{Some, None}
use Rattle.std.proofs.lemmas.List.{append-nil}
use Rattle.entry.specs.declared.entry.Entry.{Entry}
use Rattle.versioned_map.specs.Represents.{Represents}
use Rattle.versioned_map.specs.Versioned.{State}
use Rattle.log_bytes.specs.log_laws.Heads.{Start, entries_of}
use Rattle.log_bytes.specs.log_laws.Intact.{IsPassOf}
use Rattle.log_bytes.specs.log_laws.Memory.{Pass}
use Rattle.log_bytes.specs.log_laws.Tracked.{IsTracked, IsPassing, IsAround}
use Rattle.log_bytes.proofs.log_laws.NoPass.{none_passing, none_chosen}
use Rattle.log_bytes.specs.log_laws.Shown.{Shown, Op, taken}
use Rattle.log_bytes.specs.log_laws.Data.{front_entries, FailData, new_of, is_failing, state_of}
use Rattle.log_bytes.specs.log_laws.Laws.{Fits}
use Rattle.log_bytes.specs.log_laws.Log.{Texts, IsBase, IsLogHeld}
use Rattle.log_bytes.specs.log_laws.Steps.{with_taken, Reseals, texts_resealed}
use Rattle.log_bytes.proofs.log_laws.Knowing.{reseals_fits}
use Rattle.log_bytes.proofs.log_laws.Runs.{there}
use Rattle.log_bytes.proofs.log_laws.States.{whole_front}
use Rattle.log_memory.specs.Loading.{IsLoading, LoadingRepairKeeps, LoadingRepairFits}
use Rattle.log_memory.specs.Memory.{FailMemory, log_ids, log_set_of, data_of}
use Rattle.log_memory.specs.Ops.{RepairsImage}
use Rattle.log_memory.specs.Steps.{seal_op}
use Rattle.log_memory.proofs.LoadingOps.{knows_log}
use Rattle.log_memory.proofs.LoadingRolls.{opening_is}
use Rattle.log_memory.proofs.OpsKeep.{taken_so, repair_image}
use Rattle.log_memory.proofs.Repairing.{IsRepairable, image_reseals, repaired_now, both_held, resealed_stands}

module _ (d : FailData) (m : FailMemory) (p : Shown) (i : IsLoading d m p) where
  state_is : d.opening ≡ state_of d
  state_is = opening_is d i.begins

  abbrev told : IsRepairable d m p
  told = record {
    texts = i.texts;
    held = i.held;
    tracked = subst (λ (st : State). IsTracked (log_set_of d m i.texts) m.pass m.index st.contents) state_is i.tracked;
    passing = subst (λ (x : Pass). IsPassing (log_ids d m) m.images x m.index m.rest) (sym i.idle.pass)
        (none_passing (log_ids d m) m.images m.index m.rest);
    around = subst (λ (st : State). IsAround (log_set_of d m i.texts) m.pass st.contents st.safe d.next) state_is
        i.around;
    images = i.images;
    repaired = i.repaired;
    chosen = subst (λ (x : Pass). IsPassOf d.head.start (new_of d.mode) x) (sym i.idle.pass)
        (none_chosen d.head.start (new_of d.mode));
    repairs = λ is. subst (λ (st : State). st.safe ≤ d.head.start.safe) state_is (i.repairs is);
  }

  pub loading_reseals : (o : Op) (e : FailData) (is : RepairsImage d m o e)
      → Reseals d i.texts (seal_op m is.s is.b) (record d { took = with_taken d.took is.s is.b })
  loading_reseals o e is = image_reseals d m p told is.s is.b is.may

  module _ (e : FailData) (q : Shown) (o : Op) (is : Reseals d i.texts o e) (of_image : is.image ≡ data_of m is.s)
      (within : is.b < d.config.backups) (took : taken p o ≡ Some q) where
    abbrev now : Texts
    now = texts_resealed i.texts is

    -- the head has nothing yet
    nothing : front_entries d.head (length d.head.units) ≡ []
    nothing =
        let none = i.held.logged.repairs is.mode in
        whole_front d.head ∙ ap (λ (es : List Entry). es ++ entries_of d.head.units) none.0 ∙ ap entries_of none.1

    stands : (base : List Entry) → IsBase now d.head.start.others base
        → Represents d.head.start.safe (base ++ front_entries d.head (length d.head.units)) d.opening
    stands base at =
        subst (λ (st : State). Represents d.head.start.safe (base ++ front_entries d.head (length d.head.units)) st)
        (sym state_is)
        (subst (λ (bag : List Entry). Represents d.head.start.safe bag (state_of d))
        (sym (ap (λ (es : List Entry). base ++ es) nothing ∙ append-nil base))
        (resealed_stands d e m p q o told is of_image within took base at))

    no_new : (n : Start) → new_of d.mode ≡ Some n → ⊥
    no_new n new = let never : None ≡ Some n = sym (ap new_of is.mode) ∙ new in cc

    repaired_with : (taken_now : ℕ → List ℕ) → IsLogHeld (record d { took = taken_now }) now q
        → IsLoading (record d { took = taken_now }) m q
    repaired_with taken_now held = record {
      texts = now;
      held = held;
      begins = i.begins;
      numbers = i.numbers;
      stands = λ _. stands;
      new = λ n new. absurd (no_new n new);
      rolling = i.rolling;
      empty = i.empty;
      blank = i.blank;
      real = i.real;
      only = i.only;
      tracked = i.tracked;
      around = i.around;
      recorded = i.recorded;
      repairs = i.repairs;
      images = i.images;
      repaired = repaired_now d e m p q o told is of_image within took;
      whole = record {
        one = λ none. absurd (i.whole.failed (ap is_failing is.mode) none);
        failed = i.whole.failed;
      };
      idle = i.idle;
    }

    both_loading : IsLoading d m q × IsLoading e m q
    both_loading =
        let held = both_held d e m p q o told is of_image within took in (
          repaired_with d.took held.0,
          subst (λ (x : FailData). IsLoading x m q) (sym is.gives)
              (repaired_with (with_taken d.took is.s is.b)
              (subst (λ (x : FailData). IsLogHeld x now q) is.gives held.1)),
        )

pub loading_repair_keeps : LoadingRepairKeeps
loading_repair_keeps d e m p q o i is at took =
    let then : FailData = record d { took = with_taken d.took is.s is.b } in
    let op = loading_reseals d m p i o e is in
    let both = both_loading d m p i then q (seal_op m is.s is.b) op (repair_image d then m i.texts is.s is.b op)
    (there d.config o op.b op.s _ (is.op ∙ op.op) at) (taken_so p q o (seal_op m is.s is.b) is.op took) in (
      both.0,
      subst (λ (x : FailData). IsLoading x m q) (sym is.gives) both.1,
    )

pub loading_repair_fits : LoadingRepairFits
loading_repair_fits d e m p o i knows is =
    let then : FailData = record d { took = with_taken d.took is.s is.b } in
    let fits : Fits e p o =
    subst (λ (x : FailData). Fits x p o) (sym is.gives) (subst (Fits then p) (sym is.op)
    (reseals_fits d then i.texts p (seal_op m is.s is.b) i.held knows.log (loading_reseals d m p i o e is))) in
    (fits.0, fits.1, knows_log d e m m p fits.0 i refl fits.2)
