use Rattle.std.proofs.Common.{◌≡◌, ℕ, sym, subst}
use Rattle.std.specs.Prelude.{Result, Ok, Err, IfOk, OnOk, OnErr}
use Rattle.replica.specs.Picture.{FleetState}
use Rattle.master_core.specs.master_state.declared.step.Refusal.{Refusal}
use Rattle.master_core.specs.master_state.declared.step.StepAnswer.{StepAnswer}
use Rattle.master_core.specs.master_state.Data.{MasterData}
use Rattle.master_core.specs.master_state.Invariant.{IsCore}
use Rattle.master_core.specs.master_state.Steps.{Compacts}
use Rattle.master.specs.Invariant.{IsWellKept}
use Rattle.master.proofs.Compacted.{compacted_kept}
use Rattle.master.proofs.master.Master.compact.Goals as goal

-- whether it was compacted or refused
kept_then : (d e : MasterData) (f : FleetState) (id : ℕ) (result : Result StepAnswer Refusal) → IsWellKept d f
    → IfOk result (λ answer. Compacts d id answer e) → OnOk result (IsCore e) → OnErr result (e ≡ d) → IsWellKept e f
kept_then d e f id (Ok answer) kept is core same = compacted_kept d e f id answer kept is core
kept_then d e f id (Err r) kept is core same = subst (λ (m : MasterData). IsWellKept m f) (sym same) kept

pub invariant_of-self : goal.invariant_of-self
invariant_of-self g c =
    kept_then c.self.inside.core c.compact_segment.new.core (g.F.Fleet.state c.self.inside.fleet) c.args.id
    c.compact_segment.result c.self.invariant
    c.compact_segment.ensures.compacted c.compact_segment.ensures.valid c.compact_segment.ensures.err
