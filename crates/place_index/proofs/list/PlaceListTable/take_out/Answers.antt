use Rattle.std.proofs.Common.{sym, ◌∙◌}
use Rattle.place_index.proofs.TakingOut.{without_none}
use Rattle.place_index.proofs.list.PlaceListTable.take_out.Goals as goal

pub returns-clause-same : goal.returns-clause-same
returns-clause-same c = λ isnt.
    c.leave_out.ensures.taken
    ∙ without_none c.args.held c.args.self.now.held (sym c.leave_out.ensures.had ∙ isnt)
