use Rattle.std.proofs.Common.{take}
use Rattle.recovery.proofs.AskedOnce.{IsAsked}
use Rattle.recovery.proofs.inventory.inventory_of.Given as goal

abbrev pub invariant-loop-backup : goal.invariant-loop-backup
invariant-loop-backup g l = IsAsked (g.F.Fleet.state l.fleet).picture (take l.backup-index l.kept) l.list.items
