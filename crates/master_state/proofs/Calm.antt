-- The test that comes first for a step, and what holds if it refuses nothing: no failover is open.
use Rattle.std.proofs.Common.{◌≡◌, Bool, true, false, cond, refl, sym, subst}
use Rattle.std.specs.Prelude.{Option, Some, None, IfSome, is_some}
use Rattle.master_state.specs.declared.failover.Failover.{Failover}
use Rattle.master_state.specs.declared.step.Refusal.TheVariants.{Halted, Rolling}
use Rattle.master_state.specs.Causes.{step_refusal}
use Rattle.master_state.specs.Data.{MasterData}
use Rattle.master_state.specs.Invariant.{IsFailover}

-- a row of tests whose first is itself one
pub passes_first : {R : Type 0} (o rest : Option R) → cond (is_some o) o rest ≡ None → (o ≡ None) × (rest ≡ None)
passes_first None rest e = (refl, e)
passes_first (Some r) rest e = absurd (cc)

-- a core that takes steps isn't halted, and no failover is open
pub calm_parts : (d : MasterData) → step_refusal d ≡ None → (d.is_halted ≡ false) × (d.failover ≡ None)
calm_parts d e = go d.is_halted refl d.failover refl where
  go : (t : Bool) → d.is_halted ≡ t → (o : Option Failover) → d.failover ≡ o
      → (d.is_halted ≡ false) × (d.failover ≡ None)
  go true halted o is = (let never : step_refusal d ≡ Some Halted = rw halted refl in absurd (cc))
  go false running None is = (running, is)
  go false running (Some f) is = (let never : step_refusal d ≡ Some Rolling = rw (running, is) refl in absurd (cc))

-- what has to hold of an open failover, where none is open
pub no_failover : (d e : MasterData) → d.failover ≡ None → IfSome d.failover (IsFailover e)
no_failover d e calm = subst (λ (o : Option Failover). IfSome o (IsFailover e)) (sym calm) tt
