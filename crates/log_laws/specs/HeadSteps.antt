-- How units, counts of units and phases of a roll change.
use Rattle.std.specs.Prelude.{ℕ, zero, suc, ◌==◌, List, [], ◌∷◌, ◌++◌, take, drop, Option, Some, None, if◌then◌else◌}
use Rattle.entry.specs.declared.entry.Entry.{Entry}
use Rattle.log_laws.specs.Heads.{Start, LogUnit, Head, Phase, Opened, Closed}

-- ---- a new master

-- the lengths in a digest that lists no other segment: an empty list under format 2, None under format 1
abbrev pub no_lens : ℕ → Option (List ℕ)
no_lens format = if format == 2 then Some [] else None

-- the first head of a new master in this format: id 1, no other ids, safe version 1
abbrev pub first_start : ℕ → Start
first_start format = record { id = 1; others = []; lens = no_lens format; safe = 1 }

-- ---- a unit

-- the units with the unit of one more record, which has this number; the same units, if the record appended nothing
abbrev pub with_unit : List LogUnit → ℕ → List Entry → List LogUnit
with_unit us number [] = us
with_unit us number (e ∷ es) = us ++ record { number = number; entries = e ∷ es } ∷ []

-- ---- replicas

-- the units from place `from` up to, but without, place `to`
abbrev pub units_between : List LogUnit → ℕ → ℕ → List LogUnit
units_between us from to = drop from (take to us)

-- the phase once one more replica of the new head is opened, when `j` were opened before
abbrev pub one_opened : ℕ → ℕ → Start → Phase
one_opened replicas j n = if suc j == replicas then Closed 0 n else Opened (suc j) n

-- the counts of this many replicas that have no unit yet
abbrev pub no_units : ℕ → List ℕ
no_units zero = []
no_units (suc n) = 0 ∷ no_units n

-- the new head once its roll has ended: it has no units yet
abbrev pub new_head : ℕ → Start → Head
new_head replicas n = record { start = n; loaded = []; units = []; taken = no_units replicas }
