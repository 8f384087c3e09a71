use Rattle.std.proofs.Common.{◌+◌, refl}
use Rattle.master_space.proofs.Filled.{filled_end, filled_next, filled_over}
use Rattle.master_space.proofs.filling.counted_size.Goals as goal

pub returns-then-level-ge-MAX_SURVIVORS : goal.returns-then-level-ge-MAX_SURVIVORS
returns-then-level-ge-MAX_SURVIVORS c =
    filled_over c.args.core.now c.args.victims.now c.loop-id.id-index c.loop-id.level c.loop-id.invariant
    c.loop-id-test.true c.filled_by-level.result c.filled_by-level.ensures.filled c.show_valid.ensures.segments
    c.if-level-ge-MAX_SURVIVORS.true

pub loop-id-preserved : goal.loop-id-preserved
loop-id-preserved c =
    filled_next c.args.core.now c.args.victims.now c.loop-id.id-index c.loop-id.level c.loop-id.invariant
    c.loop-id-test.true c.filled_by-level.result c.filled_by-level.ensures.filled c.if-level-ge-MAX_SURVIVORS.false
    c.filled_by-level.ensures.limit

pub returns : goal.returns
returns c =
    filled_end c.args.core.now c.args.victims.now c.show_valid.ensures.segments c.loop-id.id-index c.loop-id.level
    (record { survivors = c.loop-id.level.survivor + 1; near = 0 }) c.loop-id.invariant c.loop-id-test.false refl
