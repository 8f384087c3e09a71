use Rattle.std.proofs.Common.{sym, ap, ◌∙◌}
use Rattle.versioned_map.specs.declared.command.Reply.TheVariants as reply
use Rattle.master_commands.proofs.Changes.{not_deleted, not_put}
use Rattle.master_commands.proofs.change.unchanged_reply.Goals as goal

pub returns-in-Get : goal.returns-in-Get
returns-in-Get c = λ x version no_get. absurd (rw c.in-Get.is at no_get)

pub returns-in-Delete : goal.returns-in-Delete
returns-in-Delete c = λ x version no_get safe. rw c.in-Delete.is (λ h. sym (not_deleted safe _ _ h))

pub returns-in-Put : goal.returns-in-Put
returns-in-Put c = λ x version no_get safe. rw c.in-Put.is
    (λ h. ap reply.Mismatch (sym version) ∙ sym (not_put safe _ _ _ _ h))
