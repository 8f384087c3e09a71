-- What is true of the rule of wills.
use Rattle.std.specs.Prelude.{◌≡◌, ℕ, List, true}
use Rattle.entry.specs.declared.tablet.Tablet.{Tablet}
use Rattle.entry.specs.declared.tablet.Size.{Size}
use Rattle.entry.specs.Tablet.{are_tablets}
use Rattle.tablet_will.specs.Parts.{Divides}
use Rattle.tablet_will.specs.Sizes.{are_sizes}
use Rattle.tablet_will.specs.Rule.{parts_by_rule}

-- By the rule each place of the tablets has exactly one partition, and no other place has one.
abbrev pub RuleDivides : Type 0
RuleDivides = (ts : List Tablet) (ss : List Size) (max_bytes max_objects : ℕ) → are_tablets ts ≡ true
    → are_sizes ts ss ≡ true → Divides ts (parts_by_rule max_bytes max_objects ts ss)
