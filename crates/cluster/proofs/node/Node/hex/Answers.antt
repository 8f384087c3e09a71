use Rattle.std.proofs.Common.{refl}
use Rattle.lines.specs.Grammar.{Hex}
use Rattle.cluster.proofs.Downs.{image_down}
use Rattle.cluster.proofs.Standing.{down_told, not_up}
use Rattle.cluster.proofs.node.Node.hex.Goals as goal

pub returns-in_default : goal.returns-in_default
returns-in_default c =
    let node = c.args.self.now in
    let down = not_up node c.in_default.not-Up in
    record {
      told = λ config. down_told node config (Hex c.args.segment) down refl;
      shown = image_down node c.args.segment down;
    }
