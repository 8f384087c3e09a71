use Rattle.place_index.proofs.Turns.{carries_set}
use Rattle.entry.specs.View.{shown_key}
use Rattle.place_index.proofs.running.carry_out.Goals as goal

pub returns-in_ok-reserve-in-Set : goal.returns-in_ok-reserve-in-Set
returns-in_ok-reserve-in-Set g c =
    let keys = g.R.Resolve.keys c.args.resolver.now in
    carries_set g.H.KeyHash.hash_of keys c.args.index.now.held c.reserve.new.self.held c.set.new.self.held
    c.grow.new.self.held c.in-Set.key (shown_key c.view-in-Set.result) c.in-Set.place c.args.call.now c.in-Set.is
    c.view-in-Set.ensures c.reserve.ensures.same c.set.ensures.set (c.grow.ensures.same keys)
