use Rattle.std.proofs.Common.{◌∙◌}
use Rattle.fleet_start.proofs.Begins.{begins_first}
use Rattle.fleet_start.proofs.first.is_journal_of.Goals as goal

pub returns-then-is_same : goal.returns-then-is_same
returns-then-is_same c = λ is.
    begins_first c.args.bytes.now c.args.store c.args.backup c.args.id (c.is_same.ensures c.if-is_same.true)
    (c.is_same-then-is_same.ensures is ∙ c.first_text-text.ensures.text)
