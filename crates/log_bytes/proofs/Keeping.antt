-- A fleet keeps a master's log through each event.
use Rattle.std.proofs.Common.{◌≡◌, ℕ, inl, inr, Some, sym, subst, ◌∙◌}
use Rattle.std.specs.Prelude.{IsSome}
use Rattle.std.specs.Option.{option_map}
use Rattle.replica.specs.declared.op.TakeFault.TheVariants as take_fault
use Rattle.replica.specs.Picture.{FleetState, shown_of}
use Rattle.log_laws.specs.Shown.{Shown as ModelShown, Op, taken}
use Rattle.log_laws.specs.Data.{FailData}
use Rattle.log_laws.specs.Log.{Texts, IsLogHeld, IsKept}
use Rattle.log_laws.specs.Runs.{IsFaulted}
use Rattle.log_laws.specs.Steps.{IsKnown}
use Rattle.log_laws.proofs.Knowing.{extends_fits, opens_fits, replaces_fits, raises_fits, closes_fits}
use Rattle.log_laws.proofs.Knowing.{reseals_fits, seals_fits, frees_fits}
use Rattle.log_laws.proofs.NewMaster.{fresh_is_kept}
use Rattle.log_laws.proofs.Soundness.{kept_is_sound}
use Rattle.log_bytes.specs.Spelled.{AreSegments, IsSpelled, read_replica}
use Rattle.log_bytes.specs.Keeping.{KeepsLog, IsFreedThere, KeepingIsSound}
use Rattle.log_bytes.specs.Keeping.{NewHoldsLog}
use Rattle.log_bytes.specs.Keeping.{OkIsSpelled, FaultIsEither}
use Rattle.log_bytes.specs.Keeping.{HeldOpIsNeverWrong}
use Rattle.log_bytes.specs.Segments.{IsHeldOp}
use Rattle.log_bytes.specs.Runs.{read_fleet}
use Rattle.log_bytes.proofs.FleetOps.{op_is_never_wrong, taken_is_spelled, fault_is_spelled}
use Rattle.log_bytes.proofs.FleetRuns.{nothing_spelled}
use Rattle.log_bytes.proofs.Heads.{op_has_segments}
use Rattle.log_bytes.proofs.SoundRuns.{op_leaves}
use Rattle.log_bytes.proofs.Soundness.{spelled_is_sound}

pub keeping_is_sound : KeepingIsSound
keeping_is_sound master d f keeps =
    spelled_is_sound master d (shown_of f master) (read_fleet master f) keeps.spelled
    (kept_is_sound d (read_fleet master f) keeps.kept)

pub new_holds_log : NewHoldsLog
new_holds_log master c f begins heads =
    let both = fresh_is_kept c (read_fleet master f) begins in
    record {
      keeps = record { spelled = nothing_spelled master f begins.nothing; heads = heads; kept = both.0 };
      known = both.1;
    }

-- ---- by the answer of an op

-- what comes next fits
fits : (d e : FailData) (texts : Texts) (p : ModelShown) (o : Op) → IsLogHeld d texts p → IsKnown d p
    → IsHeldOp d texts p o e → IsFreedThere p o → (q : ModelShown) × (taken p o ≡ Some q)
fits d e texts p o held known (inl is) freed =
    let is = extends_fits d e texts p o held known is in (is.0, is.1)
fits d e texts p o held known (inr (inl is)) freed =
    let is = opens_fits d e texts p o held known is in (is.0, is.1)
fits d e texts p o held known (inr (inr (inl is))) freed =
    let is = replaces_fits d e p o known is in (is.0, is.1)
fits d e texts p o held known (inr (inr (inr (inl is)))) freed =
    let is = raises_fits d e p o known is in (is.0, is.1)
fits d e texts p o held known (inr (inr (inr (inr (inl is))))) freed =
    let is = closes_fits d e texts p o held known is in (is.0, is.1)
fits d e texts p o held known (inr (inr (inr (inr (inr (inl is)))))) freed =
    let is = reseals_fits d e texts p o held known is in (is.0, is.1)
fits d e texts p o held known (inr (inr (inr (inr (inr (inr (inl is))))))) freed =
    let is = seals_fits d e texts p o known is in (is.0, is.1)
fits d e texts p o held known (inr (inr (inr (inr (inr (inr (inr is))))))) freed =
    let there : IsSome (p.holds is.b is.s) = subst (IsFreedThere p) is.op freed in
    let fit = frees_fits d e p o known is there in (fit.0, fit.1)

pub held_op_is_never_wrong : HeldOpIsNeverWrong
held_op_is_never_wrong master d e texts f g p o asked known on freed refused =
    let fit = fits d e texts p o asked.held known asked.op freed in
    op_is_never_wrong master f g p fit.0 o asked.spelled fit.1 on refused

pub ok_is_spelled : OkIsSpelled
ok_is_spelled master d e texts f g p o asked took =
    let then = taken_is_spelled master f g p o asked.spelled took in
    let segments = op_leaves master d e texts p then.0 o asked.held asked.op then.1 asked.heads asked.seals
    asked.spelled.segments in
    (then.0, then.1, then.2 segments, op_has_segments master d e texts p o asked.heads asked.op)

pub fault_is_either : FaultIsEither
fault_is_either master d e texts f g p o asked refused =
    let then = fault_is_spelled master f g p o asked.spelled refused in
    (then.0, then.1, then.2 (segments then.0 then.1))
  where
    segments : (q : ModelShown) → IsFaulted p o q → AreSegments master q
    segments q (inl same) = subst (AreSegments master) (sym same) asked.spelled.segments
    segments q (inr took) =
        op_leaves master d e texts p q o asked.held asked.op took asked.heads asked.seals asked.spelled.segments

-- ---- other masters

module _ (master : ℕ) (d : FailData) (f g : FleetState) (same : (b s : ℕ) → g.picture b master s ≡ f.picture b master s)
    (least : g.least master ≡ f.least master) where
  pub same_read : read_fleet master f ≡ read_fleet master g
  same_read = (λ i. record {
    holds = λ b s. option_map read_replica (sym (same b s) i);
    least = sym least i;
  })

  still_spelled : (p : ModelShown) → IsSpelled master (shown_of f master) p → IsSpelled master (shown_of g master) p
  still_spelled p spelled = record {
    replicas = λ b s. same b s ∙ spelled.replicas b s;
    least = least ∙ spelled.least;
    segments = spelled.segments;
  }

  pub still_keeps : KeepsLog master d f → KeepsLog master d g
  still_keeps keeps = record {
    spelled = subst (IsSpelled master (shown_of g master)) same_read
        (still_spelled (read_fleet master f) keeps.spelled);
    heads = keeps.heads;
    kept = subst (IsKept d) same_read keeps.kept;
  }
