use Rattle.std.proofs.Common.{sym, ◌∙◌}
use Rattle.locked_log.proofs.Anew.{renewed}
use Rattle.locked_log.proofs.store.Store.renew.Goals as goal

pub invariant_of-state : goal.invariant_of-state
invariant_of-state g c =
    renewed g.F.Fleet.state c.args.paused c.into_master.result c.into_master.ensures g.B.Naming.made
    g.B.Labels.start c.requires.start c.requires.made c.show_valid.ensures
    (sym c.requires.seats ∙ c.requires.cells.1) _ _ _ _ c.in-Ok.ensures.filed
