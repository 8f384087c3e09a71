-- What holds of a master holds if other masters' replicas are freed, and if a fault halts it.
use Rattle.std.proofs.Common.{◌≡◌, ℕ, refl, ap, subst, arith}
use Rattle.std.specs.Prelude.{Result, Err}
use Rattle.replica.specs.declared.op.TakeFault.{TakeFault}
use Rattle.replica.specs.declared.op.TakeFault.TheVariants as take_fault
use Rattle.replica.specs.Picture.{FleetState}
use Rattle.replica.specs.Retire.{Retires}
use Rattle.replica.specs.Take.{limited}
use Rattle.replica.proofs.Acks.{grows_not}
use Rattle.replica.proofs.Retiring.{IsSparing, retire_spares}
use Rattle.master_core.proofs.log_memory.KeptFleets.{others_leave_all}
use Rattle.master_core.specs.master_state.Data.{MasterData}
use Rattle.master_core.specs.master_state.Log.{log_of, memory_of}
use Rattle.master_core.specs.master_state.Steps.{halted}
use Rattle.master_core.proofs.master_state.Posted.{halted_core}
use Rattle.master.specs.Invariant.{IsWellKept}
use Rattle.master.specs.World.{retired_data}
use Rattle.master.proofs.LostPlaces.{placed_halted}

-- the number of the master is that of its configuration
pub of_master : (f g : FleetState) (n m : ℕ) (result : Result Unit TakeFault) → n ≡ m → Retires f n result g
    → Retires f m result g
of_master f g n m result is retires = subst (λ (k : ℕ). Retires f k result g) is retires

-- the other fleet has the same of the master
beside_kept : (d : MasterData) (f g : FleetState) → IsWellKept d f → IsSparing f d.config.master g → IsWellKept d g
beside_kept d f g kept spares =
    let still = others_leave_all (log_of d) (memory_of d) f g spares.same
    (ap (λ (h : ℕ → ℕ). h d.config.master) spares.least) spares.grows spares.acked in
    record {
      core = kept.core;
      placed = kept.placed;
      kept = still.0 kept.kept;
      known = λ going. still.1 (kept.known going);
      backups = (let le = kept.backups in let same = spares.backups in omega (arith, le, same));
      apart = kept.apart;
    }

-- a limit of takes leaves all of it
pub limited_kept : (d : MasterData) (f : FleetState) (n : ℕ) → IsWellKept d f → IsWellKept d (limited f n)
limited_kept d f n kept = beside_kept d f (limited f n) kept (record {
  backups = refl;
  least = refl;
  same = λ b s. refl;
  acked = λ b s. refl;
  grows = grows_not f.acks;
})

pub retired_kept : (d : MasterData) (f g : FleetState) (result : Result Unit TakeFault) → IsWellKept d f
    → Retires f d.config.master result g → IsWellKept d g
retired_kept d f g result kept retires =
    beside_kept d f g kept (retire_spares f g d.config.master result retires)

-- so it does if a fault of a backup halts the master
pub halted_kept : (d : MasterData) (f : FleetState) → IsWellKept d f → IsWellKept (halted d) f
halted_kept d f kept = record {
  core = halted_core d kept.core;
  placed = placed_halted d kept.placed;
  kept = kept.kept;
  known = λ never. absurd (cc);
  backups = kept.backups;
  apart = kept.apart;
}

-- nothing else halts it
pub going_on : (d : MasterData) (fault : TakeFault) → (fault ≡ take_fault.Fault → ⊥) → d ≡ retired_data (Err fault) d
going_on d take_fault.Fault not = absurd (not refl)
going_on d why not = refl
