use Rattle.std.proofs.Common.{inl, refl}
use Rattle.lines.specs.Grammar.{Will}
use Rattle.cluster.proofs.Standing.{down_told, not_up}
use Rattle.cluster.proofs.node.Node.will.Goals as goal

pub returns-in_default : goal.returns-in_default
returns-in_default c =
    let node = c.args.self.now in
    record {
      told = λ config. down_told node config Will (not_up node c.in_default.not-Up) refl;
      handed = refl;
      divides = λ config d at s. inl refl;
      limits = tt;
    }
