use Rattle.std.proofs.Common.{◌≡◌, ℕ, ◌+◌, ◌-◌, List, sym, ap, ◌∙◌, arith}
use Rattle.compactor.specs.Log.{ids_of_log}
use Rattle.images.specs.Sorted.{segment_of}
use Rattle.master_state.specs.contracts.state.Core.{the_view}
use Rattle.master_state.specs.Data.{MasterData}
use Rattle.tally.specs.Live.{live_bytes, stone_bytes}
use Rattle.tally.proofs.Sums.{kept_is_both}
use Rattle.master_space.proofs.Tallied.{live_is}
use Rattle.master_space.proofs.counts.live_in.Goals as goal

pub returns-in-Some : goal.returns-in-Some
returns-in-Some c =
    let there = ap (λ (m : MasterData). segment_of m.closed c.args.id) c.core.view_is ∙ c.requires.there in
    let some = c.in-Some.ensures.some in
    live_is (the_view c.core.inside) c.core.invariant.2 c.args.id c.args.segment.now there c.core.inside.tallies
    c.core.invariant.4 c.in-Some.row some.0 some.1
    ∙ ap (λ (m : MasterData). live_bytes m.index c.args.id c.args.segment.now) c.core.view_is

pub returns-in-None : goal.returns-in-None
returns-in-None c =
    let es = c.args.segment.now in
    let ids = ids_of_log c.args.log.now in
    let held = (the_view c.core.inside).index in
    let kept : c.kept_bytes.result ≡ live_bytes held c.args.id es + stone_bytes ids es =
    c.kept_bytes.ensures.kept ∙ kept_is_both ids held c.args.id es in
    let stones : c.args.stones ≡ stone_bytes ids es =
    c.requires.stones ∙ ap (λ (zs : List ℕ). stone_bytes zs es) (sym c.requires.log) in
    let left : c.kept_bytes.result - c.args.stones ≡ live_bytes held c.args.id es = omega (arith, kept, stones) in
    c.saturating_sub.ensures ∙ left ∙ ap (λ (m : MasterData). live_bytes m.index c.args.id es) c.core.view_is
