use Rattle.master.proofs.HeldBelow.{AreLabelsBelow}
use Rattle.master.proofs.showing.labels.Given as goal

abbrev pub invariant-loop-backup : goal.invariant-loop-backup
invariant-loop-backup g l = AreLabelsBelow l.backup (g.F.Fleet.state l.fleet).picture l.list.items
