-- What the backups of a fleet hold, and what they show.
use Rattle.std.specs.Prelude.{◌≡◌, ◌↔◌, ℕ, ◌==◌, ◌&&◌, List, [], ◌∷◌, map, length, Bool, Option, Some, None}
use Rattle.std.specs.Prelude.{if◌then◌else◌}
use Rattle.entry.specs.Bag.{IsAmong}
use Rattle.replica.specs.declared.holding.Holding.{Holding}
use Rattle.replica.specs.declared.label.Label.{Label}
use Rattle.replica.specs.Op.{OpValue}

-- what one backup holds of one segment of a master
pub record Replica : Type 0 where
  pub bytes : List ℕ
  pub is_open : Bool

-- which replica, if any, a backup holds of a master's segment; its arguments are backup, master, segment
abbrev pub Picture : Type 0
Picture = ℕ → ℕ → ℕ → Option Replica

abbrev pub is_same_place : ℕ → ℕ → ℕ → ℕ → ℕ → ℕ → Bool
is_same_place b m s c n t = (b == c) && ((m == n) && (s == t))

-- the picture with this replica, or none, at one place; a place is a backup, a master and a segment
abbrev pub with_replica : Picture → ℕ → ℕ → ℕ → Option Replica → Picture
with_replica p b m s r = λ c n t. if is_same_place b m s c n t then r else p c n t

-- the picture once only the backups that are kept are left
abbrev pub left_on : (ℕ → Bool) → Picture → Picture
left_on keep p = λ b m s. if keep b then p b m s else None

-- the picture has this replica at the place that the holding names
abbrev pub IsHeld : Picture → Holding → Type 0
IsHeld p h = p h.backup h.master h.segment ≡ Some (record { bytes = h.bytes; is_open = h.is_open })

-- What a recovery is shown: what the backups hold, and the least id of a head that the recovery may use.
pub record Shown : Type 0 where
  pub holds : Picture
  pub least : ℕ

-- what a recovery is shown once only the backups that are kept are left
abbrev pub survivors : (ℕ → Bool) → Shown → Shown
survivors keep s = record { holds = left_on keep s.holds; least = s.least }

-- the list has exactly the replicas that the picture has
abbrev pub AreHeld : List Holding → Picture → Type 0
AreHeld hs p = (h : Holding) → IsAmong h hs ↔ IsHeld p h

-- the list has exactly the replicas that this backup holds
abbrev pub AreHeldBy : List Holding → Picture → ℕ → Type 0
AreHeldBy hs p backup = (h : Holding) → IsAmong h hs ↔ ((h.backup ≡ backup) × IsHeld p h)

-- where the replica is, how many bytes it has, and whether it is open
abbrev pub label_of : Holding → Label
label_of h = record {
  backup = h.backup;
  master = h.master;
  segment = h.segment;
  len = length h.bytes;
  is_open = h.is_open;
}

-- these are the labels of exactly the replicas that the picture has
abbrev pub AreLabelsOf : Picture → List Label → Type 0
AreLabelsOf p labels = (hs : List Holding) × AreHeld hs p × (labels ≡ map label_of hs)

-- no replica is in the list twice
abbrev pub IsOnce : List Holding → Type 0
IsOnce [] = Unit {0}
IsOnce (h ∷ hs) = (IsAmong h hs → ⊥) × IsOnce hs

-- An op that a backup took and answered Ok.
pub record Ack : Type 0 where
  pub backup : ℕ
  pub op : OpValue

-- A fleet. Its backups are numbered from 0. 'takes' counts the ops and raises that were taken, and the fleet is spent
-- once they are as many as 'end'. 'faults' counts the takes that ended in Fault. 'least' has for each master the least
-- id of a head that a recovery may use. 'acks' has all ops that were answered Ok, the last one first.
pub record FleetState : Type 0 where
  pub backups : ℕ
  pub picture : Picture
  pub takes : ℕ
  pub end : ℕ
  pub faults : ℕ
  pub least : ℕ → ℕ
  pub acks : List Ack

-- what the fleet shows a recovery of this master
abbrev pub shown_of : FleetState → ℕ → Shown
shown_of f master = record { holds = f.picture; least = f.least master }
