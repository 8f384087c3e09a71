use Rattle.std.proofs.Common.{List, ◌++◌, map, ap, ◌∙◌}
use Rattle.replica.specs.declared.holding.Holding.{Holding}
use Rattle.replica.specs.Picture.{label_of}
use Rattle.master.proofs.HeldBelow.{more_below, none_below}
use Rattle.master.proofs.showing.labels.Goals as goal

pub loop-backup-init : goal.loop-backup-init
loop-backup-init g c = rw c.new-list.ensures.items (none_below (g.F.Fleet.state c.args.fleet.now).picture)

pub loop-backup-preserved : goal.loop-backup-preserved
loop-backup-preserved g c =
    let labels = c.loop-backup.list.items in
    more_below (g.F.Fleet.state c.args.fleet.now).picture c.loop-backup.backup labels
    c.add_labels.new.labels.items c.in_ok-holdings.holdings.items
    (c.in_ok-add_labels.ensures
    ∙ ap (λ (holdings : List Holding). labels ++ map label_of holdings) c.as_slice.ensures.value)
    c.in_ok-holdings.ensures.shown c.loop-backup.invariant
