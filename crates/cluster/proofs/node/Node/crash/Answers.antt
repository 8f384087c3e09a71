use Rattle.std.proofs.Common.{refl, ap, subst}
use Rattle.std.specs.Prelude.{None}
use Rattle.backup.specs.State.{fleet_state}
use Rattle.lines.specs.Grammar.{Crash}
use Rattle.cluster.specs.declared.node.Node.{Node}
use Rattle.cluster.specs.declared.node.Node.TheVariants.{Up}
use Rattle.cluster.specs.Served.{IsOf, fleet_of, is_up}
use Rattle.cluster.proofs.WhatIsLeft.{crashed_told}
use Rattle.cluster.proofs.Standing.{down_told, not_up}
use Rattle.cluster.proofs.node.Node.crash.Goals as goal

pub returns-in-Up-clause-told : goal.returns-in-Up-clause-told
returns-in-Up-clause-told c = λ config.
    let f = fleet_state c.in-Up.field-0.fleet in
    crashed_told c.args.self.now c.drop_master.new.self config Crash f (ap is_up c.in-Up.is)
    (λ d of.
    let was : IsOf (Up c.in-Up.field-0) None d = subst (λ (n : Node). IsOf n None d) c.in-Up.is of in
    (was.2, c.drop_master.ensures.left d f of (ap fleet_of c.in-Up.is))) refl

pub returns-in_default : goal.returns-in_default
returns-in_default c =
    let node = c.args.self.now in
    let down = not_up node c.in_default.not-Up in
    record { told = λ config. down_told node config Crash down refl; dropped = (down, refl, refl) }
