use Rattle.std.proofs.Common.{◌∙◌}
use Rattle.embedded.proofs.Going.{kept_alike}
use Rattle.disk_lines.proofs.printing.reply_at.Goals as goal

pub returns : goal.returns
returns g c =
    c.reply.ensures
    ∙ kept_alike c.history.result.now c.args.store.now.master.knows c.args.place c.history.ensures.records
    c.history.ensures.forgotten
