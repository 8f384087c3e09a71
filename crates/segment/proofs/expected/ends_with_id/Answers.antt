use Rattle.std.proofs.Common.{sym, arith}
use Rattle.entry.specs.View.{shown_ids}
use Rattle.segment.proofs.OrderLemmas.{ends_with-last}
use Rattle.segment.proofs.expected.ends_with_id.Goals as goal

pub returns-then-count-gt0 : goal.returns-then-count-gt0
returns-then-count-gt0 c =
    sym (ends_with-last c.args.id (shown_ids c.args.digest.now) _ c.id.result (omega arith) c.id.ensures)
