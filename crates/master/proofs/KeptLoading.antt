-- What a push and the begin of a roll keep of one that is loading.
use Rattle.std.proofs.Common.{◌≡◌, ◌⊎◌, ℕ, inl, inr, refl, sym, ap, subst, ◌∙◌}
use Rattle.std.specs.Prelude.{Result, Ok, Err, IfOk, IfErr, OnErr}
use Rattle.replica.specs.Picture.{FleetState}
use Rattle.master_core.specs.master_state.declared.step.Refusal.{Refusal}
use Rattle.master_core.specs.master_state.declared.step.Refusal.TheVariants as refusal
use Rattle.master_core.specs.master_state.declared.step.Step.TheVariants.{Push}
use Rattle.master_core.specs.master_state.declared.step.StepAnswer.{StepAnswer}
use Rattle.master_core.specs.master_state.Data.{MasterData}
use Rattle.master_core.specs.master_state.Steps.{BeginsRoll}
use Rattle.master.specs.Loading.{KeepsLoading}
use Rattle.master.specs.Pushes.{Pushes}
use Rattle.master.specs.Steps.{FailsTake, IsPushOp, IsStuck, FailsTurn, FailsPush, Accepts, Declines}
use Rattle.master.specs.World.{World, world_of}
use Rattle.master.proofs.Keeping.{IsBeside, beside_same, op_beside, op_faulted, take_failed}
use Rattle.master.proofs.PushKinds.{pushes_rest}
use Rattle.master.proofs.MendedRest.{turned_rest}

module _ (old new : World) where
  beside : new.knows.config ≡ old.knows.config → new.knows.origin ≡ old.knows.origin
      → IsBeside old.knows.config.master old.fleet new.fleet → KeepsLoading old new
  beside config origin is = record {
    config = config;
    origin = origin;
    takes = is.takes;
    others = is.others;
    least = is.least;
  }

  quiet : new.knows.config ≡ old.knows.config → new.knows.origin ≡ old.knows.origin → new.fleet ≡ old.fleet
      → KeepsLoading old new
  quiet config origin fleet =
      beside config origin
      (subst (IsBeside old.knows.config.master old.fleet) (sym fleet) (beside_same old.knows.config.master old.fleet))

  unchanged : new ≡ old → KeepsLoading old new
  unchanged same =
      quiet (ap (λ (w : World). w.knows.config) same) (ap (λ (w : World). w.knows.origin) same)
      (ap (λ (w : World). w.fleet) same)

  pushed : (answer : StepAnswer) → Pushes old answer new → KeepsLoading old new
  pushed answer p =
      let same = pushes_rest old answer new p in
      beside same.0 same.3 (op_beside old.knows.config.master old.fleet new.fleet p.op p.takes)

  halts : FailsTake (IsPushOp old) old refusal.Halted new → KeepsLoading old new
  halts t = beside (ap (λ (d : MasterData). d.config) t.1) (ap (λ (d : MasterData). d.origin) t.1)
      (op_faulted old.knows.config.master old.fleet new.fleet t.2.0 t.2.2)

  loses : (b : ℕ) → FailsTake (IsPushOp old) old (refusal.Lost b) new → KeepsLoading old new
  loses b t = beside (ap (λ (d : MasterData). d.config) t.1) (ap (λ (d : MasterData). d.origin) t.1)
      (op_faulted old.knows.config.master old.fleet new.fleet t.2.0 t.2.3)

  failed : (r : Refusal) → IsStuck old r new ⊎ (FailsTurn old r new ⊎ FailsPush old r new) → KeepsLoading old new
  failed r (inl t) = quiet (ap (λ (w : World). w.knows.config) t.3) (ap (λ (w : World). w.knows.origin) t.3)
      (ap (λ (w : World). w.fleet) t.3)
  failed r (inr (inl t)) =
      let same = turned_rest old.knows in
      beside (ap (λ (d : MasterData). d.config) t.3 ∙ same.0) (ap (λ (d : MasterData). d.origin) t.3 ∙ same.3)
      (op_faulted old.knows.config.master old.fleet new.fleet t.4.0 t.4.3)
  failed r (inr (inr t)) = take_failed (IsPushOp old) old new r t.1 unchanged loses halts

  pub push_keeps : (result : Result StepAnswer Refusal) → IfOk result (λ a. Accepts old Push a new)
      → IfErr result (λ r. Declines old Push r new)
      → KeepsLoading old new
  push_keeps (Ok answer) t refused = pushed answer t
  push_keeps (Err r) accepted (inl t) = unchanged t.1
  push_keeps (Err r) accepted (inr t) = failed r t.1

pub roll_keeps : (d e : MasterData) (f : FleetState) (result : Result StepAnswer Refusal)
    → IfOk result (λ a. BeginsRoll d a e)
    → OnErr result (e ≡ d) → KeepsLoading (world_of d f) (world_of e f)
roll_keeps d e f (Ok answer) begun same =
    quiet (world_of d f) (world_of e f) (ap (λ (x : MasterData). x.config) begun.rest)
    (ap (λ (x : MasterData). x.origin) begun.rest) refl
roll_keeps d e f (Err r) begun same = unchanged (world_of d f) (world_of e f)
    (ap (λ (x : MasterData). world_of x f) same)
