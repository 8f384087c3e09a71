use Rattle.segment.proofs.RowLemmas.{length-entries_in}
use Rattle.segment.proofs.view.SegmentRef.entries.Goals as goal

pub returns-clause-limit : goal.returns-clause-limit
returns-clause-limit c = length-entries_in c.self.inside.bytes.now c.self.invariant
