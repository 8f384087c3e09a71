use Rattle.std.proofs.Common.{List, length, ap, ◌∙◌}
use Rattle.versioned_map.specs.declared.command.Record.{Record}
use Rattle.store_step.specs.master.World.{world}
use Rattle.locked_log.proofs.Anew.{over_is}
use Rattle.locked_log.proofs.pausing.Paused.over.Goals as goal

pub invariant_of-paused : goal.invariant_of-paused
invariant_of-paused g c =
    over_is (world g.F.Fleet.state c.args.master) _ c.args.seats c.durable-first.result c.len-start.result
    c.durable-first.ensures.valid c.in-Ok.ensures c.durable-first.ensures.count
    (c.len-start.ensures ∙ ap (λ (l : List Record). length l) c.history.ensures.records)
