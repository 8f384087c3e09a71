use Rattle.locked_log.proofs.Settling.{settled_by}
use Rattle.locked_log.proofs.state.State.settle_held.Goals as goal

pub invariant_of-self : goal.invariant_of-self
invariant_of-self g c =
    (settled_by g.F.Fleet.state _ c.args.self.now c.self.view_is c.args.seat.now c.args.place g.B.Naming.made
    c.self.invariant c.requires
    c.durable-durable.result c.durable-durable.ensures.count c.settle.new.book.items c.settle.new.seat c.settle.result
    c.settle.ensures).valid

pub returns-clause-settles : goal.returns-clause-settles
returns-clause-settles g c =
    (settled_by g.F.Fleet.state _ c.args.self.now c.self.view_is c.args.seat.now c.args.place g.B.Naming.made
    c.self.invariant c.requires
    c.durable-durable.result c.durable-durable.ensures.count c.settle.new.book.items c.settle.new.seat c.settle.result
    c.settle.ensures).settles

pub returns-clause-lasts : goal.returns-clause-lasts
returns-clause-lasts g c =
    (settled_by g.F.Fleet.state _ c.args.self.now c.self.view_is c.args.seat.now c.args.place g.B.Naming.made
    c.self.invariant c.requires
    c.durable-durable.result c.durable-durable.ensures.count c.settle.new.book.items c.settle.new.seat c.settle.result
    c.settle.ensures).lasts

pub returns-clause-valid : goal.returns-clause-valid
returns-clause-valid g c =
    (settled_by g.F.Fleet.state _ c.args.self.now c.self.view_is c.args.seat.now c.args.place g.B.Naming.made
    c.self.invariant c.requires
    c.durable-durable.result c.durable-durable.ensures.count c.settle.new.book.items c.settle.new.seat c.settle.result
    c.settle.ensures).valid
