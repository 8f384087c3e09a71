use Rattle.entry.specs.View.{shown_key}
use Rattle.master_commands.proofs.Changes.{create_done, create_spent, replace_done, replace_spent}
use Rattle.master_commands.proofs.change.change_of.Goals as goal

pub returns-in-Put-clause-done : goal.returns-in-Put-clause-done
returns-in-Put-clause-done c =
    rw (c.in-None.is, c.in-Put.is) (create_done c.args.safe (shown_key c.in-Put.field-0) c.in-Put.field-1.bytes.now
    c.in-Put.when c.create.result c.create.ensures.done)

pub returns-in-Put-clause-spent : goal.returns-in-Put-clause-spent
returns-in-Put-clause-spent c =
    rw (c.in-None.is, c.in-Put.is) (create_spent c.args.safe (shown_key c.in-Put.field-0) c.in-Put.field-1.bytes.now
    c.in-Put.when c.create.result c.create.ensures.spent)

pub returns-in-Put-command-clause-done : goal.returns-in-Put-command-clause-done
returns-in-Put-command-clause-done c =
    rw (c.in-Some.is, c.in-Put-command.is)
    (replace_done c.args.safe c.in-Some.dead (shown_key c.in-Put-command.field-0) c.in-Put-command.field-1.bytes.now
    c.in-Put-command.when c.replace.result
    c.replace.ensures.done)

pub returns-in-Put-command-clause-spent : goal.returns-in-Put-command-clause-spent
returns-in-Put-command-clause-spent c =
    rw (c.in-Some.is, c.in-Put-command.is)
    (replace_spent c.args.safe c.in-Some.dead (shown_key c.in-Put-command.field-0) c.in-Put-command.field-1.bytes.now
    c.in-Put-command.when c.replace.result
    c.replace.ensures.spent)
