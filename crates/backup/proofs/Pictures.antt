-- What a change of one backup makes of the picture.
use Rattle.std.proofs.Common.{◌≡◌, ℕ, zero, suc, ◌+◌, ◌<◌, List, [], ◌∷◌, length, Bool, true, false, ◌==◌, ◌&&◌, cond}
use Rattle.std.proofs.Common.{not, Option, None, Some, set, length-set, refl, sym, ◌∙◌, ap, arith}
use mathlib.Core.Path.{fun_ext}
use Rattle.std.specs.List.{slice_get}
use Rattle.std.proofs.lemmas.Bool.{eqb-true, lt-ltb, and_parts}
use Rattle.std.proofs.Math.Dec.{eqb-zero-suc, eqb-suc-zero, eqb-suc-suc}
use Rattle.std.proofs.lemmas.Option.{slice_get_within}
use Rattle.replica.specs.Op.{OpValue}
use Rattle.replica.specs.Picture.{Replica, Ack, FleetState, with_replica, left_on}
use Rattle.replica.specs.Take.{effect, taken, with_effect}
use Rattle.backup.specs.declared.memory.MemoryBackup.{MemoryBackup}
use Rattle.backup.specs.Shelf.{replica_at}
use Rattle.backup.specs.State.{replica_on, picture_of, lost}

-- one backup becomes another
pub slice_get-set : (backups : List MemoryBackup) (b : ℕ) (new : MemoryBackup) (c : ℕ) → b < length backups
    → slice_get (set backups b new) c ≡ cond (b == c) (Some new) (slice_get backups c)
slice_get-set [] b new c within = absurd (omega arith)
slice_get-set (x ∷ xs) zero new zero within = refl
slice_get-set (x ∷ xs) zero new (suc c) within = rw (eqb-zero-suc c) refl
slice_get-set (x ∷ xs) (suc b) new zero within = rw (eqb-suc-zero b) refl
slice_get-set (x ∷ xs) (suc b) new (suc c) within = rw (eqb-suc-suc b c) (slice_get-set xs b new c (omega arith))

-- the backup of this number, and its change, which is at one place only
pub record Change (backups : List MemoryBackup) (b : ℕ) (old new : MemoryBackup) (m s : ℕ) : Type 0 where
  pub is : slice_get backups b ≡ Some old
  pub others : (n t : ℕ) → ((m == n) && (s == t)) ≡ false → replica_at new n t ≡ replica_at old n t

at_tests : (backups : List MemoryBackup) (b : ℕ) (old new : MemoryBackup) (m s : ℕ) → Change backups b old new m s
    → (c n t : ℕ) (x y : Bool) → (b == c) ≡ x → ((m == n) && (s == t)) ≡ y
    → replica_on (cond x (Some new) (slice_get backups c)) n t
    ≡ cond (x && y) (replica_at new m s) (replica_on (slice_get backups c) n t)
at_tests backups b old new m s change c n t false y e d = refl
at_tests backups b old new m s change c n t true true e d =
    let tests = and_parts (m == n) (s == t) d in
    ap (λ k. replica_at new k t) (sym (eqb-true m n tests.0))
    ∙ ap (λ k. replica_at new m k) (sym (eqb-true s t tests.1))
at_tests backups b old new m s change c n t true false e d =
    let same : b ≡ c = eqb-true b c e in
    rw (← same, change.is) (change.others n t d)

changed_at : (backups : List MemoryBackup) (b : ℕ) (old new : MemoryBackup) (m s : ℕ) → Change backups b old new m s
    → (c n t : ℕ) → picture_of (set backups b new) c n t
    ≡ with_replica (picture_of backups) b m s (replica_at new m s) c n t
changed_at backups b old new m s change c n t =
    rw (slice_get-set backups b new c (slice_get_within backups b old change.is))
    (at_tests backups b old new m s change c n t (b == c) ((m == n) && (s == t)) refl refl)

pub picture_of-set : (backups : List MemoryBackup) (b : ℕ) (old new : MemoryBackup) (m s : ℕ)
    → Change backups b old new m s
    → picture_of (set backups b new) ≡ with_replica (picture_of backups) b m s (replica_at new m s)
picture_of-set backups b old new m s change =
    fun_ext (λ c. fun_ext (λ n. fun_ext (λ t. changed_at backups b old new m s change c n t)))

kept_at : (backups : List MemoryBackup) (b : ℕ) (old : MemoryBackup) (m s : ℕ) → slice_get backups b ≡ Some old
    → (r : Option Replica) → r ≡ replica_at old m s → (c n t : ℕ) (x y : Bool) → (b == c) ≡ x
    → ((m == n) && (s == t)) ≡ y
    → cond (x && y) r (replica_on (slice_get backups c) n t) ≡ replica_on (slice_get backups c) n t
kept_at backups b old m s is r same c n t false y e d = refl
kept_at backups b old m s is r same c n t true false e d = refl
kept_at backups b old m s is r same c n t true true e d =
    let here : b ≡ c = eqb-true b c e in
    let tests = and_parts (m == n) (s == t) d in
    let master : m ≡ n = eqb-true m n tests.0 in
    let segment : s ≡ t = eqb-true s t tests.1 in
    rw (← here, is, ← master, ← segment) same

unchanged_at : (backups : List MemoryBackup) (b : ℕ) (old new : MemoryBackup) (m s : ℕ) → Change backups b old new m s
    → replica_at new m s ≡ replica_at old m s → (c n t : ℕ)
    → picture_of (set backups b new) c n t ≡ picture_of backups c n t
unchanged_at backups b old new m s change same c n t =
    changed_at backups b old new m s change c n t
    ∙ kept_at backups b old m s change.is (replica_at new m s) same c n t (b == c) ((m == n) && (s == t)) refl refl

-- a backup that becomes one with the same replicas changes nothing
pub picture_of-same : (backups : List MemoryBackup) (b : ℕ) (old new : MemoryBackup) (m s : ℕ)
    → Change backups b old new m s
    → replica_at new m s ≡ replica_at old m s → picture_of (set backups b new) ≡ picture_of backups
picture_of-same backups b old new m s change same =
    fun_ext (λ c. fun_ext (λ n. fun_ext (λ t. unchanged_at backups b old new m s change same c n t)))

-- a fleet with these backups, counts and least heads
abbrev pub fleet_of : List MemoryBackup → ℕ → ℕ → ℕ → (ℕ → ℕ) → List Ack → FleetState
fleet_of backups takes end faults least acks = record {
  backups = length backups;
  picture = picture_of backups;
  takes = takes;
  end = end;
  faults = faults;
  least = least;
  acks = acks;
}

emptied_at : (old : Option MemoryBackup) (new : MemoryBackup) (n t : ℕ) (x : Bool) → replica_at new n t ≡ None
    → replica_on (cond x (Some new) old) n t ≡ cond (not x) (replica_on old n t) None
emptied_at old new n t false empty = refl
emptied_at old new n t true empty = empty

lost_at : (backups : List MemoryBackup) (b : ℕ) (new : MemoryBackup) → b < length backups
    → ((m s : ℕ) → replica_at new m s ≡ None)
    → (c n t : ℕ) → picture_of (set backups b new) c n t ≡ left_on (λ d. not (b == d)) (picture_of backups) c n t
lost_at backups b new within empty c n t =
    rw (slice_get-set backups b new c within) (emptied_at (slice_get backups c) new n t (b == c) (empty n t))

-- if the backup becomes one that holds nothing, the fleet has lost what it held
pub lost_by : (backups : List MemoryBackup) (b : ℕ) (new : MemoryBackup) (takes end faults : ℕ) (least : ℕ → ℕ)
    (acks : List Ack) → b < length backups → ((m s : ℕ) → replica_at new m s ≡ None)
    → fleet_of (set backups b new) takes end faults least acks ≡ lost (fleet_of backups takes end faults least acks) b
lost_by backups b new takes end faults least acks within empty =
    let left : picture_of (set backups b new) ≡ left_on (λ d. not (b == d)) (picture_of backups) =
    fun_ext (λ c. fun_ext (λ n. fun_ext (λ t. lost_at backups b new within empty c n t))) in
    rw (length-set, left) refl

-- what the backup does is what the fleet does
pub taken_by : (backups : List MemoryBackup) (b : ℕ) (old new : MemoryBackup) (op : OpValue) (takes end faults : ℕ)
    (least : ℕ → ℕ) (acks : List Ack) → Change backups b old new op.master op.segment
    → effect op.act (replica_at old op.master op.segment) ≡ Some (replica_at new op.master op.segment)
    → taken (fleet_of backups takes end faults least acks) b op
    ≡ Some (fleet_of (set backups b new) (takes + 1) end faults least (record { backup = b; op = op } ∷ acks))
taken_by backups b old new op takes end faults least acks change done =
    rw (
      lt-ltb b (length backups) (slice_get_within backups b old change.is),
      change.is,
      done,
      length-set,
      picture_of-set backups b old new op.master op.segment change,
    ) refl

-- an op fits the fleet exactly if it fits the backup's replica
pub taken-effect : (backups : List MemoryBackup) (b : ℕ) (old : MemoryBackup) (op : OpValue) (takes end faults : ℕ)
    (least : ℕ → ℕ) (acks : List Ack) → slice_get backups b ≡ Some old
    → taken (fleet_of backups takes end faults least acks) b op
    ≡ with_effect (fleet_of backups takes end faults least acks) b op
    (effect op.act (replica_at old op.master op.segment))
taken-effect backups b old op takes end faults least acks is =
    rw (lt-ltb b (length backups) (slice_get_within backups b old is), is) refl
