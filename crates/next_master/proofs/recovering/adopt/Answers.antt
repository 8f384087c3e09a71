use Rattle.std.proofs.Common.{sym, ◌∙◌}
use Rattle.next_master.proofs.NextLife.{adopts_down}
use Rattle.next_master.proofs.recovering.adopt.Goals as goal

pub returns : goal.returns
returns c =
    rw c.set.ensures (adopts_down c.args.node.now c.adopted-next.result.0 c.in-Down.fleet c.args.rebuilt.now
    c.args.config c.adopted-next.result.1
    (sym c.replace.ensures.value ∙ c.in-Down.is) c.adopted-next.ensures)
