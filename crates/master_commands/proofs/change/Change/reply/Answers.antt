use Rattle.std.proofs.Common.{sym}
use Rattle.master_commands.proofs.Changes.{created, replaced, deletes}
use Rattle.master_commands.proofs.change.Change.reply.Goals as goal

pub returns-in-Create : goal.returns-in-Create
returns-in-Create c = λ x version no_get safe. rw c.in-Create.is (λ h. sym (created safe _ _ _ h))

pub returns-in-Replace : goal.returns-in-Replace
returns-in-Replace c = λ x version no_get safe. rw c.in-Replace.is (λ h. sym (replaced safe _ _ _ _ h))

pub returns-in-Delete : goal.returns-in-Delete
returns-in-Delete c = λ x version no_get safe. rw c.in-Delete.is (λ h. sym (deletes safe _ _ _ h))
