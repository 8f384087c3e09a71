-- What a take makes of a journal, and what a crash in it leaves.
use Rattle.std.proofs.Common.{◌≡◌, ◌⊎◌, inl, inr, ℕ, Bool, true, false, List, [], ◌∷◌, ◌++◌}
use Rattle.std.proofs.Common.{Option, Some, None, refl, sym, ◌∙◌, ap, subst, arith}
use Rattle.std.specs.Prelude.{is_some}
use Rattle.std.specs.Option.{option_map}
use Rattle.std.proofs.lemmas.Bool.{false≢true}
use Rattle.replica.specs.Op.{OpValue}
use Rattle.replica.specs.Picture.{Replica}
use Rattle.replica.specs.Take.{effect}
use Rattle.op_text.specs.OpText.{op_in, op_text}
use Rattle.take_journal.specs.Crash.{HasVersion, IsBeforeOrAfter, LeftByAppend, MayBeLeft}
use Rattle.take_journal.specs.Device.{AnyMoment}
use Rattle.take_journal.specs.Frames.{recovered}
use Rattle.take_journal.specs.Journal.{IsSettled, StandsFor, device_of, end_at}
use Rattle.take_journal.specs.declared.journal.Journal.{Journal}
use Rattle.file_backup.specs.Mirror.{IsJournalOf, LeftByTake, Shows}
use Rattle.file_backup.specs.Replay.{Replicas, after_op, shown, with_at}
use Rattle.file_backup.proofs.Replays.{shown-op}
use Rattle.file_backup.proofs.Versions.{version_more}

-- ---- texts

shows_either : (p q : Replicas) (old file : List ℕ) (op : OpValue) → Shows p old
    → op_in (op_text op) ≡ Some op → after_op p op ≡ Some q → IsBeforeOrAfter (recovered old) (op_text op ∷ []) file
    → Shows p file ⊎ ((r : Replicas) × (after_op p op ≡ Some r) × Shows r file)
shows_either p q old file op shows reads does (inl same) = inl (ap (λ (l : List (List ℕ)). shown l) same ∙ shows)
shows_either p q old file op shows reads does (inr are) =
    inr (q, does, ap (λ (l : List (List ℕ)). shown l) are ∙ shown-op p q (recovered old) op shows reads does)

-- an op that fits makes replicas
pub fits_makes : (p : Replicas) (op : OpValue) → is_some (effect op.act (p op.master op.segment)) ≡ true
    → (q : Replicas) × (after_op p op ≡ Some q)
fits_makes p op fits = by_effect (effect op.act (p op.master op.segment)) refl fits
  where
    by_effect : (o : Option (Option Replica)) → effect op.act (p op.master op.segment) ≡ o → is_some o ≡ true
        → (q : Replicas) × (after_op p op ≡ Some q)
    by_effect None is some = absurd (false≢true some)
    by_effect (Some r) is some = (
      with_at p op.master op.segment r,
      ap
          (λ (o : Option (Option Replica)). option_map (with_at p op.master op.segment) o) is,
    )

pub misfit_makes_none : (p : Replicas) (op : OpValue) → is_some (effect op.act (p op.master op.segment)) ≡ false
    → after_op p op ≡ None
misfit_makes_none p op misfit = by_effect (effect op.act (p op.master op.segment)) refl misfit
  where
    by_effect : (o : Option (Option Replica)) → effect op.act (p op.master op.segment) ≡ o → is_some o ≡ false
        → after_op p op ≡ None
    by_effect None is none = ap (λ (o : Option (Option Replica)). option_map (with_at p op.master op.segment) o) is
    by_effect (Some r) is none = absurd (false≢true (sym none))

-- ---- journals

module _ {D : Type 0} (contents : D → List ℕ) (may_leave : D → List ℕ → Type 0) (has_failed : D → Bool) where
  -- a settled file may be left
  pub left_settled : (device : D) (end : ℕ) → IsSettled contents may_leave has_failed device end → MayBeLeft
      (contents device)
  left_settled device end s =
      record {
        texts = recovered (contents device);
        end = 0 ∷ [];
        short = s.short;
        split = s.file;
        torn = inl
            (omega arith);
      }

  -- the journal once it has the text
  pub journal_takes : (p q : Replicas) (op : OpValue) (text : List ℕ) (old new : Journal D)
      → IsJournalOf contents may_leave has_failed p old → text ≡ op_text op → op_in (op_text op) ≡ Some op
      → after_op p op ≡ Some q
      → StandsFor contents may_leave has_failed new (recovered (contents (device_of old)) ++ text ∷ [])
      → IsJournalOf contents may_leave has_failed q new
  journal_takes p q op text old new kept text_is reads does stands =
      let before = recovered (contents (device_of old)) in
      let are : recovered (contents (device_of new)) ≡ before ++ op_text op ∷ [] =
      stands.texts_are ∙ ap (λ (t : List ℕ). before ++ t ∷ []) text_is in
      record {
        ready = stands.ready;
        settled = stands.settled;
        version = subst (λ (l : List (List ℕ)). HasVersion l) (sym are)
            (version_more p before (op_text op) kept.shows kept.version);
        shows = ap (λ (l : List (List ℕ)). shown l) are ∙ shown-op p q before op kept.shows reads does;
      }

  module _ (clock : D → ℕ) (left_since : D → ℕ → List ℕ → Type 0)
      (just_now : (device : D) (file : List ℕ) → left_since device (clock device) file → may_leave device file) where
    -- no call of a device
    pub nothing_done : (p : Replicas) (op : OpValue) (journal : Journal D)
        → IsJournalOf contents may_leave has_failed p journal
        → AnyMoment clock left_since (LeftByTake p op) (device_of journal) (device_of journal)
    nothing_done p op journal kept =
        let device = device_of journal in
        let still : LeftByTake p op (contents device) =
        record {
          shows = inl kept.shows;
          opens = record {
            version = kept.version;
            left = left_settled device
                (end_at journal) kept.settled;
          };
        } in
        record {
          onward = omega arith;
          each = λ file left. subst (λ (f : List ℕ). LeftByTake p op f)
              (sym (kept.settled.durable file (just_now device file left))) still;
          adds = λ moment file le left. inl left;
        }

  -- what a crash leaves of an append is what it leaves of the take
  pub crash_in_take : (clock : D → ℕ) (left_since : D → ℕ → List ℕ → Type 0) (p q : Replicas) (op : OpValue)
      (text : List ℕ)
      (journal : Journal D) (new : D) → IsJournalOf contents may_leave has_failed p journal → text ≡ op_text op
      → op_in (op_text op) ≡ Some op → after_op p op ≡ Some q
      → AnyMoment clock left_since (LeftByAppend (recovered (contents (device_of journal))) (text ∷ []))
      (device_of journal) new
      → AnyMoment clock left_since (LeftByTake p op) (device_of journal) new
  crash_in_take clock left_since p q op text journal new kept text_is reads does any = record {
    onward = any.onward;
    each = λ file left. gives file (any.each file left);
    adds = λ moment file le left. elim (any.adds moment file le left) [
      | inl was ↦ inl was
      | inr now ↦ inr (gives file now)
    ];
  }
    where
      before : List (List ℕ)
      before = recovered (contents (device_of journal))

      has_version : (file : List ℕ) → IsBeforeOrAfter before (text ∷ []) file → HasVersion (recovered file)
      has_version file (inl same) = subst (λ (l : List (List ℕ)). HasVersion l) (sym same) kept.version
      has_version file (inr are) =
          subst (λ (l : List (List ℕ)). HasVersion l) (sym are) (version_more p before text kept.shows kept.version)

      gives : (file : List ℕ) → LeftByAppend (recovered (contents (device_of journal))) (text ∷ []) file
          → LeftByTake p op file
      gives file left = record {
        shows = shows_either p q (contents (device_of journal)) file op kept.shows reads does
            (subst (λ (t : List ℕ). IsBeforeOrAfter (recovered (contents (device_of journal)))
            (t ∷ []) file) text_is left.texts);
        opens = record { version = has_version file left.texts; left = left.left };
      }
