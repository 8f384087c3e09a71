use Rattle.std.proofs.Common.{◌≡◌, ◌⊎◌, ℕ, List, sym, subst}
use Rattle.std.specs.Prelude.{Result, Ok, Err, IfOk, IfErr, OnOk, OnErr, Some, None}
use Rattle.replica.specs.Picture.{FleetState}
use Rattle.master_core.specs.master_state.declared.step.Refusal.{Refusal}
use Rattle.master_core.specs.master_state.declared.step.Refusal.TheVariants as refusal
use Rattle.master_core.specs.master_state.declared.step.Step.TheVariants.{BeginClean}
use Rattle.master_core.specs.master_state.declared.step.StepAnswer.{StepAnswer}
use Rattle.master_core.specs.master_state.Causes.{clean_refusal}
use Rattle.master_core.specs.master_state.Data.{MasterData}
use Rattle.master_core.specs.master_state.Invariant.{IsCore}
use Rattle.master_core.specs.master_state.Steps.{BeginsPass}
use Rattle.master.specs.Invariant.{IsWellKept}
use Rattle.master.specs.Steps.{Declines}
use Rattle.master.proofs.Begun.{begun_kept}
use Rattle.master.proofs.master.Master.begin_clean.Goals as goal

-- whether it began or was refused
kept_then : (d e : MasterData) (f : FleetState) (victims : List ℕ) (result : Result StepAnswer Refusal) → IsWellKept d f
    → IfOk result (λ answer. BeginsPass d victims answer e) → OnOk result (IsCore e)
    → OnErr result (e ≡ d) → IsWellKept e f
kept_then d e f victims (Ok answer) kept is core same = begun_kept d e f victims answer kept is core
kept_then d e f victims (Err r) kept is core same = subst (λ (m : MasterData). IsWellKept m f) (sym same) kept

-- what the core says of a refusal, of the world
declines : (d e : MasterData) (f : FleetState) (victims : List ℕ) (result : Result StepAnswer Refusal)
    → IfErr result (λ r. (clean_refusal d victims ≡ Some r)
    ⊎ ((clean_refusal d victims ≡ None) × (r ≡ refusal.NoMemory)))
    → OnErr result (e ≡ d)
    → IfErr result (λ r. Declines (record { knows = d; fleet = f }) (BeginClean victims) r
    (record { knows = e; fleet = f }))
declines d e f victims (Ok answer) is same = tt
declines d e f victims (Err r) is same = (λ i. record { knows = same i; fleet = f }, is)

pub returns-clause-refused : goal.returns-clause-refused
returns-clause-refused g c =
    rw (← c.self.view_is) (declines c.self.inside.core c.begin_clean.new.core
    (g.F.Fleet.state c.self.inside.fleet) c.args.victims
    c.begin_clean.result c.begin_clean.ensures.refused c.begin_clean.ensures.err)

pub invariant_of-self : goal.invariant_of-self
invariant_of-self g c =
    kept_then c.self.inside.core c.begin_clean.new.core (g.F.Fleet.state c.self.inside.fleet) c.args.victims
    c.begin_clean.result
    c.self.invariant c.begin_clean.ensures.begun c.begin_clean.ensures.valid c.begin_clean.ensures.err
