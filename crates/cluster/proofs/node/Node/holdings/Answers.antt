use Rattle.std.proofs.Common.{sym, ap, subst}
use Rattle.std.specs.Prelude.{IfOk, OnErr}
use Rattle.backup.specs.State.{fleet_state, HoldsAny}
use Rattle.lines.specs.Grammar.{Holdings}
use Rattle.replica.specs.Picture.{FleetState, AreLabelsOf}
use Rattle.answers.specs.declared.answer.Answer.{Answer}
use Rattle.cluster.specs.declared.node.Node.{Node}
use Rattle.cluster.specs.declared.node.Node.TheVariants.{Up, Down}
use Rattle.cluster.specs.Served.{IsOf, ShowsFleet, fleet_of, life_of}
use Rattle.cluster.specs.Told.{Tells}
use Rattle.cluster.proofs.Standing.{stays_told, lived_longer}
use Rattle.cluster.proofs.Steps.{held_shows, held_up}
use Rattle.cluster.proofs.WhatIsLeft.{held_down}
use Rattle.cluster.proofs.node.Node.holdings.Goals as goal

pub returns-in-Up-clause-told : goal.returns-in-Up-clause-told
returns-in-Up-clause-told c = λ config. stays_told c.args.self.now config Holdings c.held.result (λ d at s.
    let was : IsOf (Up c.in-Up.up) at.left d = subst (λ (n : Node). IsOf n at.left d) c.in-Up.is s.node_of in
    let f = fleet_state c.in-Up.up.fleet in
    let lived = lived_longer d d c.args.self.now c.args.self.now config at at.left s.node_of s f was.2 at.made
    s.configured s.made in
    subst (λ (a : Answer). Tells config (life_of d) at Holdings a at) (sym c.held.ensures)
    (held_up config (life_of d) at c.labels.result d f was.0 lived
    (subst (λ (x : FleetState). IfOk c.labels.result (AreLabelsOf x.picture))
    (ap fleet_state c.fleet.ensures) c.labels.ensures.shown)
    c.labels.ensures.rising))

pub returns-in-Down-clause-told : goal.returns-in-Down-clause-told
returns-in-Down-clause-told c = λ config. stays_told c.args.self.now config Holdings c.held-in-Down.result (λ d at s.
    let was : IsOf (Down c.in-Down.fleet) at.left d = subst (λ (n : Node). IsOf n at.left d) c.in-Down.is s.node_of in
    subst (λ (a : Answer). Tells config (life_of d) at Holdings a at) (sym c.held-in-Down.ensures)
    (held_down config (life_of d) at c.labels-in-Down.result d was.0
    (fleet_state c.in-Down.fleet) s.configured was.1 was.2 c.labels-in-Down.ensures.shown
    c.labels-in-Down.ensures.rising))

pub returns-in-Up-clause-shown : goal.returns-in-Up-clause-shown
returns-in-Up-clause-shown c =
    subst (λ (a : Answer). ShowsFleet c.args.self.now a) (sym c.held.ensures)
    (held_shows c.args.self.now (fleet_state c.in-Up.up.fleet) c.labels.result (ap fleet_of c.in-Up.is)
    (subst (λ (x : FleetState). IfOk c.labels.result (AreLabelsOf x.picture))
    (ap fleet_state c.fleet.ensures) c.labels.ensures.shown)
    (subst (λ (x : FleetState). OnErr c.labels.result (HoldsAny x.picture))
    (ap fleet_state c.fleet.ensures) c.labels.ensures.memory))

pub returns-in-Down-clause-shown : goal.returns-in-Down-clause-shown
returns-in-Down-clause-shown c =
    subst (λ (a : Answer). ShowsFleet c.args.self.now a) (sym c.held-in-Down.ensures)
    (held_shows c.args.self.now (fleet_state c.in-Down.fleet) c.labels-in-Down.result
    (ap fleet_of c.in-Down.is) c.labels-in-Down.ensures.shown c.labels-in-Down.ensures.memory)
