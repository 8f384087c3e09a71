use Rattle.std.proofs.Common.{◌<◌, inl, length, subst, sym}
use Rattle.master.specs.World.{MasterValue, world, world_of}
use Rattle.master.proofs.PushedFor.{pushes_keep, pushes_remember}
use Rattle.master.proofs.master.Master.push_unless_durable.Goals as goal

pub push_unless_durable-is_durable-requires : goal.push_unless_durable-is_durable-requires
push_unless_durable-is_durable-requires g c = record {
  within = subst (λ (v : MasterValue g.row.F.Denot). c.args.place < length v.knows.history) (sym c.self.view_is)
      c.requires;
  served = inl c.self.invariant;
}

pub invariant_of-self : goal.invariant_of-self
invariant_of-self g c = c.push_unless_durable-is_durable.ensures.served.0 c.self.invariant

pub returns-clause-gives : goal.returns-clause-gives
returns-clause-gives g c = rw (← c.self.view_is) c.push_unless_durable-is_durable.ensures.gives

pub returns-clause-keeps : goal.returns-clause-keeps
returns-clause-keeps g c =
    let pushed = c.push_unless_durable-is_durable in
    pushes_keep c.args.place (world g.F.Fleet.state c.args.self.now)
    (world_of pushed.new.core (g.F.Fleet.state pushed.new.fleet)) pushed.result c.show_kept.ensures
    (returns-clause-gives g c)

pub returns-clause-remembers : goal.returns-clause-remembers
returns-clause-remembers g c =
    let pushed = c.push_unless_durable-is_durable in
    pushes_remember c.args.place (world g.F.Fleet.state c.args.self.now)
    (world_of pushed.new.core (g.F.Fleet.state pushed.new.fleet)) pushed.result (returns-clause-gives g c)
