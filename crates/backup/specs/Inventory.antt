-- The order in which backups show what they hold.
use Rattle.std.specs.Prelude.{List}
use Rattle.std.specs.Ordering.{nat_cmp, ordering_then}
use Rattle.std.specs.declared.cmp.Ordering.{Ordering}
use Rattle.std.specs.List.Sorted.{IsStrictlySortedBy}
use Rattle.replica.specs.declared.holding.Holding.{Holding}
use Rattle.replica.specs.declared.label.Label.{Label}

-- by backup, then by master, then by segment
abbrev pub holding_cmp : Holding → Holding → Ordering
holding_cmp h g =
    ordering_then (nat_cmp h.backup g.backup) (ordering_then (nat_cmp h.master g.master) (nat_cmp h.segment g.segment))

-- each is shown once, in this order
abbrev pub IsRising : List Holding → Type 0
IsRising hs = IsStrictlySortedBy holding_cmp hs

-- by backup, then by master, then by segment
abbrev pub label_cmp : Label → Label → Ordering
label_cmp k l =
    ordering_then (nat_cmp k.backup l.backup) (ordering_then (nat_cmp k.master l.master) (nat_cmp k.segment l.segment))

-- each is shown once, in this order
abbrev pub AreRising : List Label → Type 0
AreRising labels = IsStrictlySortedBy label_cmp labels
