use Rattle.std.proofs.Common.{List, Option, [], sym, subst}
use Rattle.versioned_map.specs.declared.command.Record.{Record}
use Rattle.history_row.specs.Rows.{IsRowOf}
use Rattle.locked_log.proofs.Writing.{empty_row}
use Rattle.locked_log.proofs.blank.Blank.make.Goals as goal

pub returns-clause-empty : goal.returns-clause-empty
returns-clause-empty c =
    subst (λ (l : List (Option Record)). IsRowOf l []) (sym c.in_ok-cells.ensures) (empty_row c.args.cells)
