use Rattle.std.proofs.Common.{List, length, ap, arith}
use Rattle.versioned_map.specs.declared.command.Record.{Record}
use Rattle.store_step.specs.master.World.{world}
use Rattle.locked_log.proofs.Few.{few_all}
use Rattle.locked_log.proofs.pausing.Paused.history.Goals as goal

pub returns-clause-few : goal.returns-clause-few
returns-clause-few g c =
    omega (
      arith,
      few_all (world g.F.Fleet.state c.self.inside.master) c.self.invariant.valid,
      ap (λ (l : List Record). length l) c.history.ensures.records,
    )
