use Rattle.std.proofs.Common.{rules}
use Rattle.lines.proofs.Names as names
use Rattle.lines.proofs.parse.clients.Goals as goal

pub returns-in_err-rounds : goal.returns-in_err-rounds
returns-in_err-rounds c =
    rw c.from_residual-in_err-rounds.ensures (names.no_rounds c.args.words _ c.in_ok-clients.clients (search rules)
    (c.count-2.ensures.complete (search rules)))
