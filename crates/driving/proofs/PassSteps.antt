-- What a step of a pass adds to a master.
use Rattle.std.proofs.Common.{◌≡◌, ℕ, Bool, true, false, List, ap, subst, inl, inr, ◌∙◌}
use Rattle.std.specs.Option.{option_map_or}
use Rattle.std.specs.Prelude.{Option, Some, None, Result, Ok, Err, if◌then◌else◌}
use Rattle.master.specs.cleaner.declared.fault.PassFault.{PassFault}
use Rattle.master.specs.cleaner.declared.fault.PassFault.TheVariants.{TooMuch}
use Rattle.master.specs.master_state.declared.ledger.Posting.TheVariants as posting
use Rattle.master.specs.master_state.declared.step.Refusal.{Refusal}
use Rattle.master.specs.master_state.declared.step.Refusal.TheVariants as refusal
use Rattle.master.specs.master_state.declared.step.Step.TheVariants.{BeginClean, Copy, Seal, Free}
use Rattle.master.specs.master_state.declared.step.StepAnswer.{StepAnswer}
use Rattle.master.specs.master_state.Causes.{space_refusal}
use Rattle.master.specs.master_state.Data.{MasterData}
use Rattle.master.specs.master_state.Ledger.{posted}
use Rattle.master.specs.master_state.Log.{home}
use Rattle.master.specs.Passes.{IsSealOp, IsFreeOp, Seals}
use Rattle.master.specs.Steps.{Steps, Declines}
use Rattle.master.specs.World.{World}
use Rattle.driving.specs.Served.{IsSpent}
use Rattle.driving.proofs.MasterSteps.{first_unspent, refused_history, spent_take}
use Rattle.driving.proofs.Outlines.{Outline, outline, sealed_outline}

-- ---- the history stays

pub clean_history : (old new : World) (ids : List ℕ) (r : Result StepAnswer Refusal) → Steps old (BeginClean ids) r new
    → new.knows.history ≡ old.knows.history
clean_history old new ids (Ok a) h = ap (λ (d : MasterData). d.history) h.0.rest
clean_history old new ids (Err r) h = ap (λ (w : World). w.knows.history) h.0

pub copied_history : (old new : World) (r : Result StepAnswer Refusal) → Steps old Copy r new
    → new.knows.history ≡ old.knows.history
copied_history old new (Ok a) h = ap (λ (d : MasterData). d.history) h.0.rest
copied_history old new (Err r) h = ap (λ (w : World). w.knows.history) h.0

-- a seal leaves the outline
pub seals_outline : (old new : World) (a : StepAnswer) → Seals old a new → outline new.knows ≡ outline old.knows
seals_outline old new a h =
    ap outline h.rest ∙ sealed_outline (posted old.knows
    (posting.Took h.next.segment (home old.knows.config old.knows.failed h.next.segment h.next.replica)))

pub sealed_history : (old new : World) (r : Result StepAnswer Refusal) → Steps old Seal r new
    → new.knows.history ≡ old.knows.history
sealed_history old new (Ok a) h = ap (λ (o : Outline). o.history) (seals_outline old new a h)
sealed_history old new (Err r) (inl h) = ap (λ (w : World). w.knows.history) h.1
sealed_history old new (Err r) (inr h) = refused_history (IsSealOp old.knows) old new r h.1

pub freed_history : (old new : World) (r : Result StepAnswer Refusal) → Steps old Free r new
    → new.knows.history ≡ old.knows.history
freed_history old new (Ok a) h = ap (λ (d : MasterData). d.history) h.rest
freed_history old new (Err r) (inl h) = ap (λ (w : World). w.knows.history) h.1
freed_history old new (Err r) (inr h) = refused_history (IsFreeOp old.knows) old new r h.1

-- ---- which refusals are of a fleet that is spent

-- no test refuses a pass as spent, and its begin takes nothing
space_unspent : (many full spent : Bool) → (if many then Some (refusal.Pass TooMuch) else if full then Some refusal.Full
    else if spent then Some refusal.SegmentsSpent else None) ≡ Some refusal.Spent → ⊥
space_unspent true full spent e = cc
space_unspent false true spent e = cc
space_unspent false false true e = cc
space_unspent false false false e = cc

pub spent_clean : (old new : World) (ids : List ℕ) (r : Refusal) → Declines old (BeginClean ids) r new
    → r ≡ refusal.Spent → ⊥
spent_clean old new ids r h is = go (subst (λ (x : Refusal). Declines old (BeginClean ids) x new) is h)
  where
    tested : (fault : Option PassFault)
        → option_map_or (λ (f : PassFault). Some (refusal.Pass f)) fault (space_refusal old.knows ids)
        ≡ Some refusal.Spent → ⊥
    tested (Some f) e = cc
    tested None e = space_unspent _ _ _ e

    go : Declines old (BeginClean ids) refusal.Spent new → ⊥
    go (same, inl test) = first_unspent old.knows _ (tested _) test
    go (same, inr memory) = let none = memory.1 in cc

-- nor a copy
waits_unspent : (waits : Bool) → (if waits then None else Some refusal.Nothing) ≡ Some refusal.Spent → ⊥
waits_unspent true e = cc
waits_unspent false e = cc

pub spent_copy : (old new : World) (r : Refusal) → Declines old Copy r new → r ≡ refusal.Spent → ⊥
spent_copy old new r h is = go (subst (λ (x : Refusal). Declines old Copy x new) is h)
  where
    go : Declines old Copy refusal.Spent new → ⊥
    go (same, test) = first_unspent old.knows _ (waits_unspent _) test

-- nor does what a seal or a free is tested by, but a fleet that is spent refuses it so
idle_unspent : (none : Bool) → (if none then Some refusal.Nothing else None) ≡ Some refusal.Spent → ⊥
idle_unspent true e = cc
idle_unspent false e = cc

pub spent_seal : (old new : World) (r : Refusal) → Declines old Seal r new → r ≡ refusal.Spent → IsSpent new.fleet
spent_seal old new r h is = go (subst (λ (x : Refusal). Declines old Seal x new) is h)
  where
    go : Declines old Seal refusal.Spent new → IsSpent new.fleet
    go (inl h) = absurd (first_unspent old.knows _ (idle_unspent _) h.0)
    go (inr h) = spent_take (IsSealOp old.knows) old new h.1

pub spent_free : (old new : World) (r : Refusal) → Declines old Free r new → r ≡ refusal.Spent → IsSpent new.fleet
spent_free old new r h is = go (subst (λ (x : Refusal). Declines old Free x new) is h)
  where
    go : Declines old Free refusal.Spent new → IsSpent new.fleet
    go (inl h) = absurd (first_unspent old.knows _ (idle_unspent _) h.0)
    go (inr h) = spent_take (IsFreeOp old.knows) old new h.1
