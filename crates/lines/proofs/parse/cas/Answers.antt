use Rattle.std.proofs.Common.{rules}
use Rattle.lines.proofs.Names as names
use Rattle.lines.proofs.parse.cas.Goals as goal

pub returns-in_err-version : goal.returns-in_err-version
returns-in_err-version c =
    rw c.from_residual-in_err-version.ensures (names.no_version c.args.words _ c.in_ok-table.table
    c.in_ok-key.key.now (search rules)
    (c.number-2.ensures.complete (search rules)))
