use Rattle.std.proofs.Common.{sym}
use Rattle.entry.specs.View.{shown_key}
use Rattle.master_commands.proofs.Changes.{length_object_entry}
use Rattle.master_commands.proofs.loading.object_len.Goals as goal

pub returns-clause-len : goal.returns-clause-len
returns-clause-len c =
    let o = c.args.object.now in
    sym (length_object_entry (shown_key o.key) o.version o.value.now)
