-- The units of a history.
use Rattle.std.specs.Prelude.{◌≡◌, ℕ, suc, List, [], ◌∷◌}
use Rattle.entry.specs.declared.entry.Entry.{Entry}
use Rattle.versioned_map.specs.declared.command.Command.{Command}
use Rattle.versioned_map.specs.Represents.{unit_of}
use Rattle.versioned_map.specs.Versioned.{State, after_command}
use Rattle.log_laws.specs.Heads.{LogUnit}

-- these units with the unit of an earlier record put first; the same units, if that record appended nothing
abbrev pub with_first : ℕ → List Entry → List LogUnit → List LogUnit
with_first number [] us = us
with_first number (e ∷ es) us = record { number = number; entries = e ∷ es } ∷ us

-- The units are those of these commands, which begin in state `st`. The first command has this number. A command that
-- appends nothing has no unit.
abbrev pub AreNumbered : State → ℕ → List Command → List LogUnit → Type 0
AreNumbered st number [] us = us ≡ []
AreNumbered st number (c ∷ cs) us =
    (segment : ℕ) × (rest : List LogUnit) × (us ≡ with_first number (unit_of st segment c) rest)
    × AreNumbered (after_command st c) (suc number) cs rest
