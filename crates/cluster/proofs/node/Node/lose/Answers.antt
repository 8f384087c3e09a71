use Rattle.cluster.proofs.WhatIsLeft.{lost_told}
use Rattle.cluster.proofs.node.Node.lose.Goals as goal

pub returns-clause-told : goal.returns-clause-told
returns-clause-told c = λ config d at s.
    lost_told c.args.self.now c.in-Down.fleet config d at c.in-Down.is s c.args.backup c.lose.new.self
    c.lose.ensures.lost
