use Rattle.std.proofs.Common.{◌≡◌, ◌+◌, ◌<◌, ◌≤◌, ◌-◌, List, length, sym, subst}
use Rattle.std.specs.Prelude.{sum_by}
use Rattle.std.specs.List.{AllByRecursion}
use Rattle.compactor.specs.Log.{ids_of_log}
use Rattle.cleaner.specs.declared.ahead.Seen.{Seen}
use Rattle.cleaner.specs.Filling.{filled}
use Rattle.cleaner.specs.Passes.{seen_len}
use Rattle.cleaner.specs.Walks.{seen_lengths, IsShort}
use Rattle.cleaner.proofs.Batches.{ahead_short, batch_few, batch_less, filling_next, filling_end}
use Rattle.cleaner.proofs.filling.fill.Goals.{After-fill_seen-level}
use Rattle.cleaner.proofs.filling.fill.Goals as goal

pub fill_seen-level-requires-clause-short : goal.fill_seen-level-requires-clause-short
fill_seen-level-requires-clause-short c =
    subst (AllByRecursion IsShort) (sym c.as_slice.ensures.value)
    (ahead_short (ids_of_log c.args.log.now) c.args.index.now.held c.args.id c.args.segment.now c.in-Some.start
    c.gather-at.new.seen.items c.gather-at.ensures.ahead)

pub fill_seen-level-requires-clause-few : goal.fill_seen-level-requires-clause-few
fill_seen-level-requires-clause-few c =
    subst (λ (xs : List Seen). c.loop-start.level.survivor + length xs < 4294967296) (sym c.as_slice.ensures.value)
    (batch_few (ids_of_log c.args.log.now) c.args.index.now.held c.args.id c.args.segment.now c.args.limit c.args.from
    c.loop-start.level c.loop-start.at c.in-Some.start c.loop-start.invariant (c.in-Some.ensures.finds.1 c.args.id)
    c.gather-at.new.seen.items c.gather-at.ensures.ahead c.in-Some.ensures.limit)

-- the batch fills survivors
batch_filled : (c : After-fill_seen-level)
    → c.fill_seen-level.result ≡ filled c.args.limit c.loop-start.level (seen_lengths (ids_of_log c.args.log.now)
    c.args.index.now.held c.args.id (c.gather-at.result - sum_by seen_len c.gather-at.new.seen.items)
    c.gather-at.new.seen.items)
batch_filled c =
    subst (λ (xs : List Seen). c.fill_seen-level.result ≡ filled c.args.limit c.loop-start.level (seen_lengths
    (ids_of_log c.args.log.now) c.args.index.now.held c.args.id (c.gather-at.result - sum_by seen_len xs) xs))
    c.as_slice.ensures.value c.fill_seen-level.ensures.filled

pub loop-start-smaller : goal.loop-start-smaller
loop-start-smaller c =
    batch_less (ids_of_log c.args.log.now) c.args.index.now.held c.args.id c.args.segment.now c.args.limit c.args.from
    c.loop-start.level c.loop-start.at c.in-Some.start c.loop-start.invariant (c.in-Some.ensures.finds.1 c.args.id)
    c.gather-at.new.seen.items c.gather-at.ensures.ahead c.gather-at.result c.gather-at.ensures.end
    c.fill_seen-level.result (batch_filled (goal.at.loop-start-smaller c).After-fill_seen-level)

pub loop-start-preserved : goal.loop-start-preserved
loop-start-preserved c =
    filling_next (ids_of_log c.args.log.now) c.args.index.now.held c.args.id c.args.segment.now c.args.limit c.args.from
    c.loop-start.level c.loop-start.at c.in-Some.start c.loop-start.invariant (c.in-Some.ensures.finds.1 c.args.id)
    c.gather-at.new.seen.items c.gather-at.ensures.ahead c.gather-at.result c.gather-at.ensures.end
    c.fill_seen-level.result (batch_filled (goal.at.loop-start-preserved c).After-fill_seen-level)
    c.gather-at.ensures.between
    (subst (λ (xs : List Seen). c.fill_seen-level.result.survivor ≤ c.loop-start.level.survivor + length xs)
    c.as_slice.ensures.value c.fill_seen-level.ensures.few)
    c.fill_seen-level.ensures.limit

pub returns-clause-filled : goal.returns-clause-filled
returns-clause-filled c =
    filling_end (ids_of_log c.args.log.now) c.args.index.now.held c.args.id c.args.segment.now c.args.limit c.args.from
    c.loop-start.at c.loop-start.level c.loop-start.invariant c.in_default.ensures.finds c.in_default.ensures.valid
