use Rattle.script.proofs.Sessions.{stands_checked}
use Rattle.script.proofs.session.Session.set_later.Goals as goal

pub can_begin-requires : goal.can_begin-requires
can_begin-requires c = stands_checked c.args.self.now c.requires

pub returns-clause-begins : goal.returns-clause-begins
returns-clause-begins c = λ is. c.can_begin.ensures.0 c.if-not-can_begin.false

pub returns-then-not-can_begin-clause-refused : goal.returns-then-not-can_begin-clause-refused
returns-then-not-can_begin-clause-refused c = λ is may.
    let yes = c.can_begin.ensures.1 may in let no = c.if-not-can_begin.true in absurd (cc)
