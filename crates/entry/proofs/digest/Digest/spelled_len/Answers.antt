use Rattle.std.proofs.Common.{arith}
use Rattle.entry.proofs.SpellingLemmas.{length-digest, length-lengths}
use Rattle.entry.proofs.digest.Digest.spelled_len.Goals as goal

pub returns-in-Ids-clause-len : goal.returns-in-Ids-clause-len
returns-in-Ids-clause-len c = rw (c.in-Ids.is, length-digest, c.as_slice.ensures.ids) (omega arith)

pub returns-in-Lengths-clause-len : goal.returns-in-Lengths-clause-len
returns-in-Lengths-clause-len c =
    rw (c.in-Lengths.is, length-lengths, c.as_slice-in-Lengths.ensures.segments) (omega arith)
