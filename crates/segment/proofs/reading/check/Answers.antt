use Rattle.std.proofs.Common.{arith}
use Rattle.segment.proofs.OrderLemmas.{completes-nil}
use Rattle.segment.proofs.WalkLemmas.{IsWalked-start, IsSegmentBytes-walked}
use Rattle.segment.proofs.FaultLemmas.{IsBadOrder-ended}
use Rattle.segment.proofs.reading.check.Goals as goal

pub loop-at-init : goal.loop-at-init
loop-at-init c = (omega arith, IsWalked-start c.args.bytes.now)

pub returns-in-Data-clause-ok : goal.returns-in-Data-clause-ok
returns-in-Data-clause-ok c =
    IsSegmentBytes-walked c.args.bytes.now c.loop-at.at (rw c.in-Data.is at c.loop-at.invariant.1) (omega arith)
    c.loop-at.invariant.0

pub returns-in_default : goal.returns-in_default
returns-in_default c =
    let limit = c.loop-at.invariant.0 in
    let ended =
    IsBadOrder-ended c.args.bytes.now c.loop-at.at c.loop-at.expected c.loop-at.invariant.1 (omega arith)
    (completes-nil c.loop-at.expected c.in_default.not-Data) in
    record { ok = tt; fault = (limit, ended); memory = λ is. cc }
