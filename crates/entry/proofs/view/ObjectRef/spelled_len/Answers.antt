use Rattle.std.proofs.Common.{sym}
use Rattle.entry.specs.View.{shown_object}
use Rattle.entry.proofs.SpellingLemmas.{length-object}
use Rattle.entry.proofs.view.ObjectRef.spelled_len.Goals as goal

pub returns-clause-len : goal.returns-clause-len
returns-clause-len c = sym (length-object (shown_object c.args.self.now))
