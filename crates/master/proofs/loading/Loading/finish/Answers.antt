use Rattle.std.proofs.Common.{sym, ◌∙◌}
use Rattle.master.proofs.Loaded.{finished_kept}
use Rattle.master.proofs.loading.Loading.finish.Goals as goal

pub begin_history-requires : goal.begin_history-requires
begin_history-requires g c = record {
  bare = c.self.invariant.bare;
  done = sym c.can_finish.ensures
      ∙ c.if-not-can_finish.false;
}

pub invariant_of-master : goal.invariant_of-master
invariant_of-master g c =
    finished_kept c.self.inside.core c.begin_history.new.core (g.F.Fleet.state c.self.inside.fleet) c.self.invariant
    (sym c.can_finish.ensures ∙ c.if-not-can_finish.false) c.begin_history.ensures.settled c.begin_history.ensures.valid
