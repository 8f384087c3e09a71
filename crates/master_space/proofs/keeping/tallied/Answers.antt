use Rattle.std.proofs.Common.{ℕ, List, sym, ap, ◌∙◌}
use Rattle.images.specs.Sorted.{segment_of}
use Rattle.master_state.specs.contracts.state.Core.{the_view}
use Rattle.master_state.specs.Data.{MasterData}
use Rattle.master_state.specs.Log.{log_set_ids}
use Rattle.tally.specs.Fills.{kept_len}
use Rattle.tally.specs.Live.{stone_bytes}
use Rattle.master_space.proofs.Tallied.{stones_are, both_are}
use Rattle.master_space.proofs.keeping.tallied.Goals as goal

pub stones_by-requires : goal.stones_by-requires
stones_by-requires c fresh =
    let there = ap (λ (m : MasterData). segment_of m.closed c.args.id) c.core.view_is ∙ c.requires.there in
    let some = c.in-Some.ensures.some in
    stones_are (the_view c.core.inside) c.core.invariant.2 c.args.id c.args.segment.now there c.core.inside.tallies
    c.core.invariant.4 c.in-Some.row some.0 some.1 fresh
    ∙ ap (λ (ids : List ℕ). stone_bytes ids c.args.segment.now) (ap log_set_ids c.core.view_is ∙ sym c.requires.log)

pub returns-in-Some-clause-kept : goal.returns-in-Some-clause-kept
returns-in-Some-clause-kept c =
    let there = ap (λ (m : MasterData). segment_of m.closed c.args.id) c.core.view_is ∙ c.requires.there in
    let some = c.in-Some.ensures.some in
    both_are (the_view c.core.inside) c.core.invariant.2 c.args.id c.args.segment.now there c.core.inside.tallies
    c.core.invariant.4 c.in-Some.row some.0 some.1 c.stones_by.result
    (c.stones_by.ensures.sum
    ∙ ap (λ (ids : List ℕ). stone_bytes ids c.args.segment.now) (c.requires.log ∙ ap log_set_ids (sym c.core.view_is)))
    ∙ ap (λ (m : MasterData). kept_len (log_set_ids m) m.index c.args.id c.args.segment.now) c.core.view_is
