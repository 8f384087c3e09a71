use Rattle.history.specs.View.{shown_command}
use Rattle.embedded.proofs.Going.{means_forgot, means_then}
use Rattle.embedded.proofs.carrying.carry_out.Goals as goal

pub returns-clause-means : goal.returns-clause-means
returns-clause-means g c =
    let command = shown_command c.args.command.now in
    let reply = c.reply_to-reply.result in
    means_forgot _ _ _ command reply c.forget.ensures
    (means_then reply.status _ _ _ command reply c.reply_to-reply.ensures c.clean_a_little.ensures)
