use Rattle.std.proofs.Common.{sym}
use Rattle.entry.specs.View.{shown_tombstone}
use Rattle.entry.proofs.SpellingLemmas.{length-tombstone}
use Rattle.entry.proofs.view.TombstoneRef.spelled_len.Goals as goal

pub returns-clause-len : goal.returns-clause-len
returns-clause-len c = sym (length-tombstone (shown_tombstone c.args.self.now))
