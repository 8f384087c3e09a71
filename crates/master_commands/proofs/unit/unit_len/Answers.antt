use Rattle.std.proofs.Common.{sym}
use Rattle.entry.specs.View.{shown_key}
use Rattle.master_commands.proofs.Changes.{length_object_entry, length_tombstone_entry, length_replacing}
use Rattle.master_commands.proofs.unit.unit_len.Goals as goal

pub returns-in-Delete-change-clause-len : goal.returns-in-Delete-change-clause-len
returns-in-Delete-change-clause-len c = λ segment. rw (c.in-Delete.is, c.in-Delete-change.is)
    (sym (length_tombstone_entry (shown_key c.in-Delete.key) c.in-Delete-change.field-0 segment))

pub returns-in-Create-clause-len : goal.returns-in-Create-clause-len
returns-in-Create-clause-len c = λ segment. rw (c.in-Put.is, c.in-Create.is)
    (sym (length_object_entry (shown_key c.in-Put.key) c.in-Create.field-0 c.in-Put.value.bytes.now))

pub returns-in-Replace-clause-len : goal.returns-in-Replace-clause-len
returns-in-Replace-clause-len c = λ segment. rw (c.in-Put.is, c.in-Replace.is)
    (sym (length_replacing (shown_key c.in-Put.key) c.in-Replace.field-0 c.in-Replace.field-1 segment
    c.in-Put.value.bytes.now))
