use Rattle.std.proofs.Common.{◌≡◌, List, sym, ap, ◌∙◌}
use Rattle.cleaner.specs.Passes.{ids_in}
use Rattle.entry.specs.declared.entry.Entry.{Entry}
use Rattle.master_state.specs.contracts.state.Core.{the_view}
use Rattle.master_state.specs.Data.{MasterData}
use Rattle.master_state.specs.Log.{images_of, log_set_ids}
use Rattle.tally.specs.Live.{live_bytes, stone_bytes}
use Rattle.master_space.proofs.Tallied.{closed_image}
use Rattle.master_space.proofs.counts.counted.Goals as goal
use Rattle.master_space.proofs.counts.counted.Goals.{After-live_in}

image : (c : After-live_in) → images_of (the_view c.core.inside) c.args.id ≡ c.in-Some.image
image c =
    closed_image (the_view c.core.inside) c.core.invariant.2 c.args.id c.in-Some.image
    (sym c.get.ensures ∙ c.in-Some.is)

pub returns-in-Some-clause-live : goal.returns-in-Some-clause-live
returns-in-Some-clause-live c =
    c.live_in.ensures
    ∙ ap (λ (es : List Entry). live_bytes c.args.core.now.index c.args.id es) (sym (image c))
    ∙ ap (λ (m : MasterData). live_bytes c.args.core.now.index c.args.id (images_of m c.args.id)) c.core.view_is

pub returns-in-Some-clause-stones : goal.returns-in-Some-clause-stones
returns-in-Some-clause-stones c =
    c.stones_in-stones.ensures.sum
    ∙ (λ i. stone_bytes (ids_in (the_view c.core.inside).closed (c.id.ensures.id i) (c.opening_id.ensures i))
    (sym (image c) i))
    ∙ ap (λ (m : MasterData). stone_bytes (log_set_ids m) (images_of m c.args.id)) c.core.view_is
