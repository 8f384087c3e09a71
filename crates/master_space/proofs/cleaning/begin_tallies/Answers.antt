use Rattle.std.proofs.Common.{List, inl, subst}
use Rattle.entry.specs.Bag.{IsAmong}
use Rattle.tally.specs.declared.tallies.Tally.{Tally}
use Rattle.master_space.proofs.BegunTallies.{begun_next, begun_all}
use Rattle.master_space.proofs.cleaning.begin_tallies.Goals as goal

pub loop-at-init : goal.loop-at-init
loop-at-init c = λ row m. inl (subst (λ (rows : List Tally). IsAmong row rows) c.reserve.ensures m)

pub loop-at-preserved : goal.loop-at-preserved
loop-at-preserved c =
    begun_next c.args.survivors.first c.loop-at.at c.id.result c.args.tallies.now c.loop-at.tallies c.begin.new.self
    c.id.ensures c.loop-at.invariant c.begin.ensures.begun

pub returns : goal.returns
returns c =
    begun_all c.args.survivors c.loop-at.at c.args.tallies.now c.loop-at.tallies c.loop-at.auto.at-end
    c.loop-at.invariant
