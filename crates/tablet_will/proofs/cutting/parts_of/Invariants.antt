use Rattle.std.proofs.Common.{◌≡◌, ◌++◌, drop}
use Rattle.tablet_will.proofs.Covering.{parts}
use Rattle.tablet_will.proofs.cutting.parts_of.Given as goal

abbrev pub invariant-loop-tablet : goal.invariant-loop-tablet
invariant-loop-tablet l = l.parts.items ++ parts l.starts (drop l.tablet-index l.tablets) ≡ parts l.starts l.tablets
