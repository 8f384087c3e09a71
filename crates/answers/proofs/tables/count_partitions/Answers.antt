use Rattle.answers.proofs.Printed.{counts_last}
use Rattle.answers.proofs.tables.count_partitions.Goals as goal

pub returns-in-len1-up : goal.returns-in-len1-up
returns-in-len1-up c = counts_last c.args.parts.now _ c.in-len1-up.len_at_least
