use Rattle.std.proofs.Common.{refl}
use Rattle.lines.specs.Grammar.{Segments}
use Rattle.cluster.proofs.Downs.{segments_down}
use Rattle.cluster.proofs.Standing.{down_told, not_up}
use Rattle.cluster.proofs.node.Node.segments.Goals as goal

pub returns-in_default : goal.returns-in_default
returns-in_default c =
    let node = c.args.self.now in
    let down = not_up node c.in_default.not-Up in
    record { told = λ config. down_told node config Segments down refl; shown = segments_down node down }
