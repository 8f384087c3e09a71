-- Lives without a master, and what is left of a fleet.
use Rattle.std.proofs.Common.{◌≡◌, ℕ, false, inl, inr, refl}
use Rattle.std.specs.Prelude.{Err}
use Rattle.std.proofs.Math.Nat.{le_refl}
use Rattle.replica.specs.Picture.{FleetState}
use Rattle.replica.specs.declared.op.TakeFault.{TakeFault}
use Rattle.replica.specs.declared.op.TakeFault.TheVariants as take_fault
use Rattle.recovery.specs.master.World.{retired_data}
use Rattle.recovery.specs.master.master_state.Data.{MasterData}
use Rattle.recovery.specs.replay.Adopting.{IsAdoptedOn}
use Rattle.embedded.specs.Lives.{Crashes, FreesOf, is_up}
use Rattle.embedded.specs.declared.life.Life.{Life}
use Rattle.embedded.specs.declared.life.Life.TheVariants.{Up, Down, Changing}

-- a life without a master has none to drop
pub none_to_drop : (l : Life) → is_up l ≡ false → Crashes l false l
none_to_drop (Up m) down = absurd (cc)
none_to_drop (Down fleet) down = (refl, refl)
none_to_drop Changing down = (refl, refl)

-- nothing changed in a fleet
pub same_on : (number : ℕ) (f : FleetState) → IsAdoptedOn number f f
same_on number f = record {
  backups = refl;
  takes = le_refl f.takes;
  end = refl;
  others = λ b m s other. refl;
  least = λ m other. refl;
}

-- what a master knows if its freeing was cut short
pub cut_frees : (fault : TakeFault) (d e : MasterData) → e ≡ retired_data (Err fault) d → FreesOf false d e
cut_frees take_fault.NoMemory d e is = inl is
cut_frees take_fault.Wrong d e is = inl is
cut_frees take_fault.Fault d e is = inr is
cut_frees take_fault.Spent d e is = inl is
