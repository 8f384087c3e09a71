-- What a master's backups took and answered Ok, of the heads of its log and of its other segments.
use Rattle.std.specs.Prelude.{◌≡◌, ℕ, List, Some}
use Rattle.entry.specs.Bag.{IsAmong}
use Rattle.replica.specs.Acks.{acked, WasAcked, HasPut}
use Rattle.replica.specs.Picture.{Ack}
use Rattle.log_bytes.specs.log_laws.Heads.{Start}
use Rattle.log_bytes.specs.log_laws.Data.{Head, front, bare, FailData, HasTaken, new_of}
use Rattle.log_bytes.specs.log_laws.Durable.{TakenHead}
use Rattle.log_bytes.specs.Text.{bytes_for}

-- the bytes of a head with its first `count` units
abbrev pub bytes_up_to : ℕ → Head → ℕ → List ℕ
bytes_up_to master h count = bytes_for master h.start.id (front h count)

-- What the master counts for its backups is what they took and answered Ok.
pub record AreAcked (master : ℕ) (d : FailData) (acks : List Ack) (past : List TakenHead) : Type 0 where
  -- each backup that took the head's Open took, with Ok, just the bytes up to the units that are counted for it
  pub head : (b : ℕ) → HasTaken d d.head.start.id b
      → acked acks b master d.head.start.id ≡ bytes_up_to master d.head (d.counts b)
  -- each backup that took a new head's Open took, with Ok, just its opening
  pub new : (n : Start) (b : ℕ) → new_of d.mode ≡ Some n → HasTaken d n.id b
      → acked acks b master n.id ≡ bytes_for master n.id (bare n)
  -- each backup of an earlier head had taken, with Ok, its bytes up to the units that were counted for it
  pub before : (h : TakenHead) (b : ℕ) → IsAmong h past → IsAmong b h.took
      → WasAcked acks b master h.head.start.id (bytes_up_to master h.head (h.counts b))
  -- each backup that took a segment answered Ok to an Open or a Seal of it
  pub took : (s b : ℕ) → HasTaken d s b → HasPut acks b master s
