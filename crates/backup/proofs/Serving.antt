-- What one backup answers is what the fleet answers.
use Rattle.std.proofs.Common.{◌≡◌, ℕ, ◌<◌, List, true, false, refl, sym, ap, ◌∙◌, Option, None, Some, set, length-set}
use Rattle.std.specs.Prelude.{Err, is_some}
use Rattle.std.proofs.lemmas.Bool.{false≢true}
use Rattle.replica.specs.declared.op.TakeFault.{TakeFault}
use Rattle.replica.specs.declared.op.TakeFault.TheVariants as take_fault
use Rattle.replica.specs.Op.{OpValue}
use Rattle.replica.specs.Picture.{Replica, Ack, FleetState}
use Rattle.replica.specs.Take.{effect, taken, with_effect, Takes}
use Rattle.backup.specs.declared.memory.MemoryBackup.{MemoryBackup}
use Rattle.backup.specs.Acts.{Acts, IsWrongOp}
use Rattle.backup.specs.Faults.{Serves}
use Rattle.backup.specs.Shelf.{replica_at}
use Rattle.backup.proofs.Pictures.{Change, fleet_of, picture_of-same, taken-effect}

fits : (f : FleetState) (b : ℕ) (op : OpValue) (e : Option (Option Replica)) → is_some e ≡ true
    → (mid : FleetState) × (with_effect f b op e ≡ Some mid)
fits f b op None some = absurd (false≢true some)
fits f b op (Some r) some = (_, refl)

fits_not : (f : FleetState) (b : ℕ) (op : OpValue) (e : Option (Option Replica)) → is_some e ≡ false
    → with_effect f b op e ≡ None
fits_not f b op None none = refl
fits_not f b op (Some r) none = absurd (false≢true (sym none))

module _ (backups : List MemoryBackup) (b : ℕ) (old new : MemoryBackup) (op : OpValue) (takes end faults : ℕ)
    (least : ℕ → ℕ) (acks : List Ack) (change : Change backups b old new op.master op.segment) where
  abbrev f : FleetState
  f = fleet_of backups takes end faults least acks

  abbrev e : Option (Option Replica)
  e = effect op.act (replica_at old op.master op.segment)

  is_effect : taken f b op ≡ with_effect f b op e
  is_effect = taken-effect backups b old op takes end faults least acks change.is

  -- the fleet takes an op that fits its backup
  pub fits_fleet : takes < end → is_some e ≡ true → (mid : FleetState) × Takes f b op mid
  fits_fleet left some = let found = fits f b op e some in (found.0, (left, is_effect ∙ found.1))

  -- and refuses one that doesn't
  pub wrong_fleet : takes < end → is_some e ≡ false → IsWrongOp f b op
  wrong_fleet left none = (left, is_effect ∙ fits_not f b op e none)

  -- a backup with the same replicas leaves the fleet the same
  pub same_fleet : replica_at new op.master op.segment ≡ replica_at old op.master op.segment
      → fleet_of (set backups b new) takes end faults least acks ≡ f
  same_fleet same = rw (length-set, picture_of-same backups b old new op.master op.segment change same) refl

  -- what the backup refuses, the fleet refuses
  pub served_by : (fault : TakeFault) → takes < end
      → Acts op.act (replica_at old op.master op.segment) (Err fault) (replica_at new op.master op.segment)
      → Serves f b op (Err fault) (fleet_of (set backups b new) takes end faults least acks)
  served_by take_fault.NoMemory left acts = (fits_fleet left acts.0, same_fleet acts.1)
  served_by take_fault.Wrong left acts =
      ((left, is_effect ∙ ap (with_effect f b op) acts.0), same_fleet acts.1)
  served_by take_fault.Fault left acts = absurd acts
  served_by take_fault.Spent left acts = absurd acts
