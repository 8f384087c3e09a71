-- The ops of a master, and what each makes of what the backups hold.
use Rattle.std.specs.Prelude.{ℕ, Option}
use Rattle.std.specs.Option.{option_map}
use Rattle.replica.specs.Op.{ActValue, OpValue}
use Rattle.replica.specs.Picture.{Replica, Picture, with_replica}
use Rattle.replica.specs.Take.{effect}

-- An act on the replica that a backup holds of a segment.
pub record LogOp : Type 0 where
  pub backup : ℕ
  pub segment : ℕ
  pub act : ActValue

-- the op as the backup of this master gets it
abbrev pub op_of : ℕ → LogOp → OpValue
op_of master o = record { master = master; segment = o.segment; act = o.act }

-- the picture once the op is taken, or None if the op doesn't fit what the backup holds
abbrev pub taken : Picture → ℕ → LogOp → Option Picture
taken p master o =
    option_map (λ (r : Option Replica). with_replica p o.backup master o.segment r)
    (effect o.act (p o.backup master o.segment))
