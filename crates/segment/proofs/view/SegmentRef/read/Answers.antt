use Rattle.segment.proofs.WalkLemmas.{IsTextOf-entries_in}
use Rattle.segment.proofs.FaultLemmas.{IsFault-text}
use Rattle.segment.proofs.view.SegmentRef.read.Goals as goal

pub returns-in-Ok-clause-complete : goal.returns-in-Ok-clause-complete
returns-in-Ok-clause-complete c = λ entries is limit. IsTextOf-entries_in c.args.bytes.now entries is

pub returns-in-Err-clause-complete : goal.returns-in-Err-clause-complete
returns-in-Err-clause-complete c =
    λ entries is limit. c.in-Err.ensures.memory (IsFault-text c.args.bytes.now c.in-Err.fault entries
    c.in-Err.ensures.fault is limit)
