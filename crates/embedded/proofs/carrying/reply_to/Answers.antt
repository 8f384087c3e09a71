use Rattle.history.specs.View.{shown_command}
use Rattle.embedded.proofs.Going.{done_means, read_last, refused_means, unsure_means}
use Rattle.embedded.proofs.carrying.reply_to.Goals as goal

pub reply_at-requires : goal.reply_at-requires
reply_at-requires g c =
    let is = c.in-Done.ensures.0 in
    let within = c.show_valid.ensures.history.within in
    (is.reply, read_last _ (shown_command c.args.command.now) c.in-Done.place _ within is)

pub returns-in-Done : goal.returns-in-Done
returns-in-Done g c =
    let is = c.in-Done.ensures in
    let command = shown_command c.args.command.now in
    let within = c.show_valid.ensures.history.within in
    done_means _ command c.in-Done.place _ c.reply_at.result within is
    (c.reply_at.ensures is.0.reply (read_last _ command c.in-Done.place _ within is.0))

pub returns-in-Refused : goal.returns-in-Refused
returns-in-Refused g c =
    refused_means _ (shown_command c.args.command.now) c.in-Refused.refusal _ c.refused.result c.in-Refused.ensures
    c.refused.ensures

pub returns-in-Unsure : goal.returns-in-Unsure
returns-in-Unsure g c =
    unsure_means _ (shown_command c.args.command.now) c.in-Unsure.place c.in-Unsure.refusal _ c.unsure.result
    c.in-Unsure.ensures c.unsure.ensures
