-- What a take and a raise make of the state of a fleet.
use Rattle.std.proofs.Common.{◌≡◌, ◌⊎◌, inl, inr, ℕ, ◌+◌, ◌<◌, ◌==◌, ◌∷◌, length, not, None, refl, ◌∙◌, ap, subst}
use Rattle.std.proofs.lemmas.Bool.{lt-ltb}
use Rattle.replica.specs.Op.{OpValue}
use Rattle.replica.specs.Picture.{FleetState, Picture, left_on}
use Rattle.replica.specs.Take.{Refuses, Takes}
use Rattle.replica.specs.declared.op.TakeFault.TheVariants as take_fault
use Rattle.backup.specs.State.{lost}
use Rattle.file_backup.specs.Replay.{Replicas}
use Rattle.file_fleet.specs.Files.{Files, Noted, ShowsFleet}
use Rattle.file_fleet.specs.Fleet.{FleetValue, ShowsBetween, ShowsState, TakesOp, fleet_state}
use Rattle.file_fleet.specs.Members.{TakesOn, picture_of, with_backup}
use Rattle.file_fleet.specs.Moments.{ShowsPut, ShowsTake}
use Rattle.file_fleet.specs.declared.members.Members.{Members}
use Rattle.file_fleet.proofs.Pictures.{lost_picture}

-- the fleet once this backup took the op
abbrev with_take : FleetState → ℕ → OpValue → Picture → FleetState
with_take f b op p = record {
  backups = f.backups;
  picture = p;
  takes = f.takes + 1;
  end = f.end;
  faults = f.faults;
  least = f.least;
  acks = record { backup = b; op = op } ∷ f.acks;
}

-- a fleet that took one op more and answered nobody
abbrev left_after : {D R : Type 0} → FleetValue D R → ℕ → Picture → ℕ → (ℕ → ℕ) → FleetState
left_after v n p faults l = record {
  backups = n;
  picture = p;
  takes = v.takes + 1;
  end = v.end;
  faults = faults;
  least = l;
  acks = v.acks;
}

takes_by : (f : FleetState) (b : ℕ) (op : OpValue) (p : Picture) → f.takes < f.end
    → TakesOn f.backups f.picture b op p → Takes f b op (with_take f b op p)
takes_by f b op p left on = (left, rw (lt-ltb b f.backups on.within, on.does, on.makes) refl)

-- an op that was taken, and of which nobody is told
pub taken_unanswered : {D R : Type 0} (noted : R → Noted) (v : FleetValue D R) (members : Members D R) (b : ℕ)
    (op : OpValue)
    (faults : ℕ) → v.takes < v.end
    → TakesOn (length v.members.list.items) (picture_of v.members.list.items) b op (picture_of members.list.items)
    → length members.list.items ≡ length v.members.list.items
    → (noted members.registry).least ≡ (noted v.members.registry).least → faults ≡ v.faults + 1
    → Refuses (fleet_state noted v) b op take_fault.Fault
    (fleet_state noted (record {
      members = members;
      takes = v.takes + 1;
      end = v.end;
      faults = faults;
      acks = v.acks;
    }))
taken_unanswered noted v members b op faults left on count least counted = inr (
  with_take (fleet_state noted v) b op (picture_of members.list.items),
  takes_by (fleet_state noted v) b op (picture_of members.list.items) left on,
  ap (λ (n : ℕ). left_after v n (picture_of members.list.items) faults (noted members.registry).least) count
      ∙ ap (λ (n : ℕ). left_after v (length v.members.list.items) (picture_of members.list.items) n
      (noted members.registry).least) counted
      ∙ ap (λ (l : ℕ → ℕ). left_after v (length v.members.list.items) (picture_of members.list.items) (v.faults + 1) l)
      least,
)

-- files that show the backups before a take or after it show the fleet so
pub between_take : {D R : Type 0} (noted : R → Noted) (v : FleetValue D R) (b : ℕ) (op : OpValue) (files : Files)
    → v.takes < v.end
    → ShowsTake (length v.members.list.items) (picture_of v.members.list.items) (noted v.members.registry).least b op
    files
    → ShowsBetween (fleet_state noted v) (TakesOp b op) files
between_take noted v b op files left (inl before) = inl before
between_take noted v b op files left (inr after) =
    inr (
      with_take (fleet_state noted v) b op after.0,
      takes_by (fleet_state noted v) b op after.0 left after.1,
      after.2,
    )

abbrev with_parts : FleetState → ℕ → Picture → (ℕ → ℕ) → FleetState
with_parts f n p l = record {
  backups = n;
  picture = p;
  takes = f.takes;
  end = f.end;
  faults = f.faults;
  least = l;
  acks = f.acks;
}

-- a fleet whose backups show the same
pub same_state : {D R : Type 0} (noted : R → Noted) (v : FleetValue D R) (members : Members D R)
    → length members.list.items ≡ length v.members.list.items
    → picture_of members.list.items ≡ picture_of v.members.list.items
    → (noted members.registry).least ≡ (noted v.members.registry).least
    → fleet_state noted (record { members = members; takes = v.takes; end = v.end; faults = v.faults; acks = v.acks })
    ≡ fleet_state noted v
same_state noted v members count same least =
    ap (λ (n : ℕ). with_parts (fleet_state noted v) n (picture_of members.list.items) (noted members.registry).least)
    count
    ∙ ap (λ (p : Picture). with_parts (fleet_state noted v) (length v.members.list.items) p
    (noted members.registry).least) same
    ∙ ap (λ (l : ℕ → ℕ). with_parts (fleet_state noted v) (length v.members.list.items)
    (picture_of v.members.list.items) l) least

-- what is left of a fleet once a backup that holds nothing is in the place of one
pub lost_state : {D R : Type 0} (noted : R → Noted) (v : FleetValue D R) (members : Members D R) (b : ℕ) (q : Replicas)
    → ((m s : ℕ) → q m s ≡ None) → length members.list.items ≡ length v.members.list.items
    → picture_of members.list.items ≡ with_backup (picture_of v.members.list.items) b q
    → (noted members.registry).least ≡ (noted v.members.registry).least
    → fleet_state noted (record { members = members; takes = v.takes; end = v.end; faults = v.faults; acks = v.acks })
    ≡ lost (fleet_state noted v) b
lost_state noted v members b q none count put least =
    ap (λ (n : ℕ). with_parts (fleet_state noted v) n (picture_of members.list.items) (noted members.registry).least)
    count
    ∙ ap (λ (p : Picture). with_parts (fleet_state noted v) (length v.members.list.items) p
    (noted members.registry).least) (put ∙ lost_picture (picture_of v.members.list.items) b q none)
    ∙ ap (λ (l : ℕ → ℕ). with_parts (fleet_state noted v) (length v.members.list.items)
    (left_on (λ c. not (b == c)) (picture_of v.members.list.items)) l) least

-- files that show the backups before a loss or after it show the fleet so
pub between_loss : {D R : Type 0} (noted : R → Noted) (v : FleetValue D R) (b : ℕ) (q : Replicas) (files : Files)
    → ((m s : ℕ) → q m s ≡ None)
    → ShowsPut (length v.members.list.items) (picture_of v.members.list.items) (noted v.members.registry).least b q
    files
    → ShowsState (fleet_state noted v) files ⊎ ShowsState (lost (fleet_state noted v) b) files
between_loss noted v b q files none (inl before) = inl before
between_loss noted v b q files none (inr after) =
    inr (subst (λ p. ShowsFleet (length v.members.list.items) p (noted v.members.registry).least files)
    (lost_picture (picture_of v.members.list.items) b q none) after)
