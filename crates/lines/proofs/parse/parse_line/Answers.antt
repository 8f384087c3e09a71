use Rattle.std.proofs.Common.{rules}
use Rattle.lines.proofs.Spelling.{read_is_said, unread_is_unsaid}
use Rattle.lines.proofs.parse.parse_line.Goals as goal

pub returns-in-Some-clause-sound : goal.returns-in-Some-clause-sound
returns-in-Some-clause-sound c = read_is_said _ _ c.in-Some.line c.of.ensures c.in-Some.ensures

pub returns-in-None-clause-complete : goal.returns-in-None-clause-complete
returns-in-None-clause-complete c = λ _. unread_is_unsaid _ _ c.of.ensures (search rules) c.in-None.ensures
