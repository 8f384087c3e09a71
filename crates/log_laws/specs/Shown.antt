-- What a recovery is shown of one master: what the backups hold, and the least head that may be used; and the ops that
-- change it.
use Rattle.std.specs.Prelude.{ℕ, ◌≤◌, ◌==◌, ◌&&◌, max, List, ◌++◌, Bool, true, false, Option, Some, None, IsSome}
use Rattle.std.specs.Prelude.{IsSomeAnd, if◌then◌else◌}
use Rattle.std.specs.Option.{option_map}
use Rattle.entry.specs.declared.entry.Entry.{Entry}
use Rattle.log_laws.specs.Text.{Text, Replica, length_of}

-- the replica, if any, that the backup of this number holds of the segment of this id
abbrev pub Holds : Type 0
Holds = ℕ → ℕ → Option Replica

-- what the backups hold of the master, and the least head that the registry has for it
pub record Shown : Type 0 where
  pub holds : Holds
  pub least : ℕ

-- what is shown if these backups are left; the registry isn't lost
abbrev pub survivors : (ℕ → Bool) → Shown → Shown
survivors keep s = record { holds = λ b t. if keep b then s.holds b t else None; least = s.least }

-- the backup holds a replica of the segment that has a digest, and that may be used as a head
pub record HoldsHead (s : Shown) (b t : ℕ) : Type 0 where
  pub bears : IsSomeAnd (s.holds b t) (λ (r : Replica). IsSome r.text.opening)
  pub usable : s.least ≤ t

-- ---- ops

-- what an op does to the replica that it names
pub data Act : Type 0 where
  Open : Text → Act
  Extend : ℕ → List Entry → Act
  Close : Act
  Seal : Text → Act
  Free : Act

-- an act on the replica that a backup holds of a segment, or a raise of the least head in the registry
pub data Op : Type 0 where
  On : ℕ → ℕ → Act → Op
  Raise : ℕ → Op

-- what the act makes of the replica that it names; None if it doesn't fit
abbrev pub effect : Act → Option Replica → Option (Option Replica)
effect (Open text) None = Some (Some (record { text = text; is_open = true }))
effect (Open text) (Some r) = None
effect (Extend at more) None = None
effect (Extend at more) (Some r) =
    if r.is_open && (at == length_of r.text)
    then Some (Some (record { text = record r.text { entries = r.text.entries ++ more }; is_open = true })) else None
effect Close None = None
effect Close (Some r) = if r.is_open then Some (Some (record { text = r.text; is_open = false })) else None
effect (Seal text) None = Some (Some (record { text = text; is_open = false }))
effect (Seal text) (Some r) = None
effect Free None = None
effect Free (Some r) = Some None

-- what is held, with this replica, or none, on one backup for one segment
abbrev pub with_replica : Holds → ℕ → ℕ → Option Replica → Holds
with_replica holds b s x = λ c t. if (b == c) && (s == t) then x else holds c t

-- what is shown once the op is taken; None if it doesn't fit
abbrev pub taken : Shown → Op → Option Shown
taken s (On b t act) =
    option_map (λ (x : Option Replica). record { holds = with_replica s.holds b t x; least = s.least })
    (effect act (s.holds b t))
taken s (Raise id) = Some (record { holds = s.holds; least = max s.least id })
