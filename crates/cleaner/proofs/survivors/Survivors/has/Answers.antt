use Rattle.std.proofs.Common.{sym, ◌∙◌}
use Rattle.std.proofs.lemmas.Bool.{lt-leb}
use Rattle.cleaner.proofs.SurvivorIds.{has_ids, has_below}
use Rattle.cleaner.proofs.survivors.Survivors.has.Goals as goal

pub returns-then-self-id : goal.returns-then-self-id
returns-then-self-id c = sym (has_ids c.args.self.first c.args.self.count c.args.id c.if-self-id.true)

pub returns-else-self-id : goal.returns-else-self-id
returns-else-self-id c =
    lt-leb c.args.self.first c.args.id c.if-self-id.false
    ∙ sym (has_below c.args.self.first c.args.self.count c.args.id c.if-self-id.false)
