-- Why the lists of a log are not made.
use Rattle.std.specs.Prelude.{List, ⊤}
use Rattle.entry.specs.declared.key.Key.{Key}
use Rattle.entry.specs.declared.entry.Entry.{Entry}
use Rattle.entry.specs.Meaning.{IsClean, among}
use Rattle.tablet_will.specs.declared.part.Part.{Part}
use Rattle.division.specs.Division.{HasStray}
use Rattle.claims.specs.Bags.{segments_bag}
use Rattle.partitions.specs.declared.setback.Setback.{Setback}
use Rattle.partitions.specs.declared.setback.Setback.TheVariants as setback

-- What a setback says of the log: with Clash the log is not clean, with Stray some key has no partition.
abbrev pub IsSetback : List Part → List (List Entry) → Setback → Type 0
IsSetback qs segments setback.NoMemory = ⊤
IsSetback qs segments setback.Clash = ¬ IsClean (among (segments_bag segments))
IsSetback qs segments setback.Stray = (k : Key) × HasStray qs (segments_bag segments) k
IsSetback qs segments setback.NotWhole = ⊤

-- the cause of the setback lies outside of the log
abbrev pub IsOutside : Setback → Type 0
IsOutside setback.NoMemory = ⊤
IsOutside setback.Clash = ⊥
IsOutside setback.Stray = ⊥
IsOutside setback.NotWhole = ⊤
