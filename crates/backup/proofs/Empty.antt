-- Backups that hold nothing.
use Rattle.std.proofs.Common.{◌≡◌, ℕ, zero, suc, List, [], ◌∷◌, ◌++◌, length, None, refl}
use Rattle.std.proofs.Common.{subst, sym, ap, ◌+◌, ◌∙◌, length-append, arith}
use Rattle.replica.specs.Picture.{Ack, FleetState}
use Rattle.replica.specs.Take.{no_limit}
use Rattle.backup.specs.declared.memory.MemoryBackup.{MemoryBackup}
use Rattle.backup.specs.Registry.{Heads, least_in}
use Rattle.backup.specs.Shelf.{replica_at}
use Rattle.backup.specs.State.{picture_of, new_fleet}

-- no backup of the list holds a replica
abbrev pub AreEmpty : List MemoryBackup → Type 0
AreEmpty backups = (b m s : ℕ) → picture_of backups b m s ≡ None

pub none_empty : AreEmpty []
none_empty b m s = refl

more_empty : (backups : List MemoryBackup) (x : MemoryBackup) → AreEmpty backups → ((m s : ℕ) → replica_at x m s ≡ None)
    → AreEmpty (backups ++ x ∷ [])
more_empty [] x held fresh zero m s = fresh m s
more_empty [] x held fresh (suc b) m s = refl
more_empty (y ∷ ys) x held fresh zero m s = held zero m s
more_empty (y ∷ ys) x held fresh (suc b) m s = more_empty ys x (λ c. held (suc c)) fresh b m s

pub pushed_empty : (backups new : List MemoryBackup) (x : MemoryBackup) → new ≡ backups ++ x ∷ [] → AreEmpty backups
    → ((m s : ℕ) → replica_at x m s ≡ None) → AreEmpty new
pushed_empty backups new x is held fresh = subst AreEmpty (sym is) (more_empty backups x held fresh)

-- what a fleet of such backups is
abbrev fleet_of : List MemoryBackup → Heads → List Ack → FleetState
fleet_of backups heads acks = record {
  backups = length backups;
  picture = picture_of backups;
  takes = 0;
  end = no_limit;
  faults = 0;
  least = least_in heads;
  acks = acks;
}

pub empty_fleet : (n : ℕ) (backups : List MemoryBackup) (heads : Heads) (acks : List Ack) → length backups ≡ n
    → AreEmpty backups → heads ≡ [] → acks ≡ [] → fleet_of backups heads acks ≡ new_fleet n
empty_fleet n backups heads acks count empty none unanswered =
    λ i. record {
      backups = count i;
      picture = λ b m s. empty b m s i;
      takes = 0;
      end = no_limit;
      faults = 0;
      least = least_in (none i);
      acks = unanswered i;
    }

pub pushed_count : (backups new : List MemoryBackup) (x : MemoryBackup) (n : ℕ) → new ≡ backups ++ x ∷ []
    → length backups ≡ n → length new ≡ n + 1
pushed_count backups new x n is count =
    let longer : length new ≡ length backups + 1 = ap length is ∙ length-append backups (x ∷ []) in
    omega (arith, longer, count)
