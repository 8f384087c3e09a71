use Rattle.std.proofs.Common.{◌≡◌, refl, sym, subst}
use Rattle.std.specs.Prelude.{Result, Ok, Err, IfOk, OnOk, OnErr}
use Rattle.replica.specs.Picture.{FleetState}
use Rattle.master_core.specs.master_state.declared.step.Refusal.{Refusal}
use Rattle.master_core.specs.master_state.declared.step.Step.TheVariants.{BeginRoll}
use Rattle.master_core.specs.master_state.declared.step.StepAnswer.{StepAnswer}
use Rattle.master_core.specs.master_state.Data.{MasterData}
use Rattle.master_core.specs.master_state.Invariant.{IsCore}
use Rattle.master_core.specs.master_state.Steps.{BeginsRoll, MayRollNow}
use Rattle.master.specs.Invariant.{IsWellKept}
use Rattle.master.specs.Steps.{Accepts}
use Rattle.master.specs.World.{world_of}
use Rattle.master.proofs.Rolled.{rolled_kept}
use Rattle.master.proofs.master.Master.begin_roll.Goals as goal

-- whether it began or was refused
kept_then : (d e : MasterData) (f : FleetState) (result : Result StepAnswer Refusal) → IsWellKept d f
    → IfOk result (λ answer. BeginsRoll d answer e) → OnOk result (MayRollNow d) → OnOk result (IsCore e)
    → OnErr result (e ≡ d) → IsWellKept e f
kept_then d e f (Ok answer) kept is may core same = rolled_kept d e f answer is may core kept
kept_then d e f (Err r) kept is may core same = subst (λ (m : MasterData). IsWellKept m f) (sym same) kept

pub invariant_of-self : goal.invariant_of-self
invariant_of-self g c =
    kept_then c.self.inside.core c.begin_roll.new.core (g.F.Fleet.state c.self.inside.fleet)
    c.begin_roll.result c.self.invariant
    c.begin_roll.ensures.begun c.begin_roll.ensures.may c.begin_roll.ensures.valid c.begin_roll.ensures.err

-- what the core says of an answer, of the world
accepts : (d e : MasterData) (f : FleetState) (result : Result StepAnswer Refusal)
    → IfOk result (λ answer. BeginsRoll d answer e)
    → IfOk result (λ answer. Accepts (world_of d f) BeginRoll answer (world_of e f))
accepts d e f (Ok answer) is = (is, refl)
accepts d e f (Err r) is = tt

pub returns-clause-accepted : goal.returns-clause-accepted
returns-clause-accepted g c =
    rw (← c.self.view_is) (accepts c.self.inside.core c.begin_roll.new.core (g.F.Fleet.state c.self.inside.fleet)
    c.begin_roll.result c.begin_roll.ensures.begun)
