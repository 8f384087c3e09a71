use Rattle.std.proofs.Common.{◌∙◌, Option, ap}
use Rattle.std.specs.Option.{option_map}
use Rattle.versioned_map.specs.declared.command.Record.{Record}
use Rattle.cluster.proofs.Forgotten.{kept_there}
use Rattle.cluster.proofs.Tries.{no_reply, reply_found}
use Rattle.cluster.proofs.node.Node.lent_reply.Goals as goal

pub returns-in-Up : goal.returns-in-Up
returns-in-Up c = λ reply at.
    let found = reply_found c.args.self.now c.in-Up.up c.args.place reply c.in-Up.is at in
    c.reply.ensures
    ∙ ap (λ (o : Option Record). option_map (λ (r : Record). r.reply) o)
    (kept_there c.history.result.now c.in-Up.up.knows c.args.place c.history.ensures.records c.history.ensures.forgotten
    found.0)
    ∙ found.1

pub returns-in_default : goal.returns-in_default
returns-in_default c = λ reply at. absurd (no_reply c.args.self.now c.args.place reply c.in_default.not-Up at)
