use Rattle.std.proofs.Common.{sym, ap, ◌∙◌}
use Rattle.master_state.specs.contracts.state.Core.{the_view}
use Rattle.master_state.specs.Data.{MasterData}
use Rattle.master_state.specs.Log.{images_of, log_set_ids}
use Rattle.tally.specs.Live.{live_bytes, stone_bytes}
use Rattle.master_space.proofs.Tallied.{counted_right}
use Rattle.master_space.proofs.counts.recount.Goals as goal

pub invariant_of-core : goal.invariant_of-core
invariant_of-core c = (
  c.core.invariant.0,
  c.core.invariant.1,
  c.core.invariant.2,
  c.core.invariant.3,
  counted_right (the_view c.core.inside) c.args.id c.in-Some.live c.in-Some.stones c.core.inside.tallies c.put.new.self
      (c.in-Some.ensures.live
      ∙ ap (λ (m : MasterData). live_bytes m.index c.args.id (images_of m c.args.id)) (sym c.core.view_is))
      (c.in-Some.ensures.stones
      ∙ ap (λ (m : MasterData). stone_bytes (log_set_ids m) (images_of m c.args.id)) (sym c.core.view_is))
      c.put.ensures.put c.core.invariant.4,
)
