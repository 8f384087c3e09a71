use Rattle.std.proofs.Common.{◌++◌, ◌∷◌, ap, codes, arith, rules}
use Rattle.raw_lines.proofs.Behind.{key_no_key, key_no_table, no_del, read_key}
use Rattle.raw_lines.proofs.commands.del.Goals as goal

pub returns-in_err-table : goal.returns-in_err-table
returns-in_err-table c =
    rw c.from_residual.ensures (no_del c.args.rest
    (key_no_table c.args.rest (c.number.ensures.complete (search rules))))

pub returns-in_err-key : goal.returns-in_err-key
returns-in_err-key c =
    rw c.from_residual-in_err-key.ensures (no_del c.args.rest (key_no_key c.args.rest _ c.in_ok-table.table
    (omega arith) c.in_ok-table.ensures.sound.0 (c.last_key.ensures.complete (search rules))))

pub returns : goal.returns
returns c = record {
  spaced = ap (λ l. codes "del" ++ 32 ∷ l) (read_key c.args.rest _ _ _ c.in_ok-table.ensures.sound.0
      c.in_ok-key.ensures.sound.0);
  limits = (omega arith, c.in_ok-key.ensures.sound.1);
}
