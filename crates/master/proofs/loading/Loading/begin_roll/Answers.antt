use Rattle.std.proofs.Common.{◌≡◌, sym, subst}
use Rattle.std.specs.Prelude.{Result, Ok, Err, IfOk, OnOk, OnErr}
use Rattle.replica.specs.Picture.{FleetState}
use Rattle.master_core.specs.master_state.declared.step.Refusal.{Refusal}
use Rattle.master_core.specs.master_state.declared.step.StepAnswer.{StepAnswer}
use Rattle.master_core.specs.master_state.Data.{MasterData}
use Rattle.master_core.specs.master_state.Invariant.{IsCore}
use Rattle.master_core.specs.master_state.Steps.{BeginsRoll, MayRollNow}
use Rattle.master.specs.Invariant.{IsWellLoaded}
use Rattle.master.proofs.KeptLoading.{roll_keeps}
use Rattle.master.proofs.Rolled.{rolled_loaded}
use Rattle.master.proofs.loading.Loading.begin_roll.Goals as goal

-- whether it began or was refused
loaded_then : (d e : MasterData) (f : FleetState) (result : Result StepAnswer Refusal) → IsWellLoaded d f
    → IfOk result (λ answer. BeginsRoll d answer e) → OnOk result (MayRollNow d) → OnOk result (IsCore e)
    → OnErr result (e ≡ d) → IsWellLoaded e f
loaded_then d e f (Ok answer) loaded is may core same = rolled_loaded d e f answer is may core loaded
loaded_then d e f (Err r) loaded is may core same = subst (λ (m : MasterData). IsWellLoaded m f) (sym same) loaded

pub invariant_of-self : goal.invariant_of-self
invariant_of-self g c =
    loaded_then c.self.inside.core c.begin_roll.new.core (g.F.Fleet.state c.self.inside.fleet)
    c.begin_roll.result c.self.invariant
    c.begin_roll.ensures.begun c.begin_roll.ensures.may c.begin_roll.ensures.valid c.begin_roll.ensures.err

pub returns-clause-keeps : goal.returns-clause-keeps
returns-clause-keeps g c =
    rw (← c.self.view_is) (roll_keeps c.self.inside.core c.begin_roll.new.core
    (g.F.Fleet.state c.self.inside.fleet) c.begin_roll.result
    c.begin_roll.ensures.begun c.begin_roll.ensures.err)
