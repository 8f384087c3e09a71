use Rattle.std.proofs.Common.{arith, rules}
use Rattle.lines.proofs.Scanning.{one_more}
use Rattle.lines.proofs.reading.front_of_raw.Goals as goal

pub loop-len-preserved : goal.loop-len-preserved
loop-len-preserved c =
    let more = one_more c.args.scan c.loop-len.behind _ c.args.shown.now c.loop-len.len (search (rules, arith))
    c.loop-len.invariant.stands c.loop-len.invariant.together c.behind-behind.ensures
    (c.ends_at.ensures.goes_on c.if-ends_at.false) in
    record { stands = more.0; together = more.1; within = search (rules, arith) }
