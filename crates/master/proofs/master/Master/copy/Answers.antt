use Rattle.std.proofs.Common.{◌≡◌, sym, subst}
use Rattle.std.specs.Prelude.{Result, Ok, Err, IfOk, OnOk, OnErr}
use Rattle.replica.specs.Picture.{FleetState}
use Rattle.master_core.specs.master_state.declared.step.Refusal.{Refusal}
use Rattle.master_core.specs.master_state.declared.step.StepAnswer.{StepAnswer}
use Rattle.master_core.specs.master_state.Data.{MasterData}
use Rattle.master_core.specs.master_state.Invariant.{IsCore}
use Rattle.master_core.specs.master_state.Steps.{Copies}
use Rattle.master.specs.Invariant.{IsWellKept}
use Rattle.master.proofs.Copied.{copied_kept}
use Rattle.master.proofs.master.Master.copy.Goals as goal

-- whether an entry was treated or the step was refused
kept_then : (d e : MasterData) (f : FleetState) (result : Result StepAnswer Refusal) → IsWellKept d f
    → IfOk result (λ answer. Copies d answer e) → OnOk result (IsCore e) → OnErr result (e ≡ d) → IsWellKept e f
kept_then d e f (Ok answer) kept is core same = copied_kept d e f answer kept is core
kept_then d e f (Err r) kept is core same = subst (λ (m : MasterData). IsWellKept m f) (sym same) kept

pub invariant_of-self : goal.invariant_of-self
invariant_of-self g c =
    kept_then c.self.inside.core c.copy.new.core (g.F.Fleet.state c.self.inside.fleet) c.copy.result c.self.invariant
    c.copy.ensures.copied c.copy.ensures.valid c.copy.ensures.err
