use Rattle.cluster.proofs.ByHand.{made_told, refused_told}
use Rattle.cluster.proofs.node.Node.step.Goals as goal

pub returns-in-Ok-clause-told : goal.returns-in-Ok-clause-told
returns-in-Ok-clause-told c = λ config.
    let a = c.in-Ok in
    made_told c.args.self.now c.in-Up.up c.step.new.self c.in-Up.is c.args.step a.ensures.valid a.ensures.keeps config
    a.made a.ensures.gives

pub returns-in-Err-clause-told : goal.returns-in-Err-clause-told
returns-in-Err-clause-told c = λ config.
    let e = c.in-Err in
    refused_told c.args.self.now c.in-Up.up c.step.new.self c.in-Up.is c.args.step e.ensures.valid
    e.ensures.keeps config
    e.refusal e.ensures.gives c.refuse.new.self c.refuse.result c.refuse.ensures
