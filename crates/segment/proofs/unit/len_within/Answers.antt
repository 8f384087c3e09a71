use Rattle.std.proofs.Common.{arith}
use Rattle.segment.proofs.UnitLemmas.{is_data-at, text-at}
use Rattle.segment.proofs.unit.len_within.Goals as goal

pub spelled_len-len-requires : goal.spelled_len-len-requires
spelled_len-len-requires c =
    is_data-at c.args.unit.now c.loop-entry.entry-index c.entry-item.result c.loop-entry-test.true c.entry-item.is
    c.requires.data

pub returns-then-len-room-clause-fits : goal.returns-then-len-room-clause-fits
returns-then-len-room-clause-fits c =
    let more =
    text-at c.args.unit.now c.loop-entry.entry-index c.entry-item.result c.loop-entry-test.true c.entry-item.is in
    (λ is. absurd (cc), λ fits. absurd (omega arith))
