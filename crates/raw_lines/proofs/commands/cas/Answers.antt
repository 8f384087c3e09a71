use Rattle.std.proofs.Common.{◌++◌, ◌∷◌, ap, codes, arith, rules}
use Rattle.raw_lines.proofs.Behind.{no_cas, read_version, version_no_key, version_no_table, version_no_value}
use Rattle.raw_lines.proofs.Behind.{version_no_version}
use Rattle.raw_lines.proofs.commands.cas.Goals as goal

pub returns-in_err-table : goal.returns-in_err-table
returns-in_err-table c =
    rw c.from_residual.ensures (no_cas c.args.rest
    (version_no_table c.args.rest (c.number.ensures.complete (search rules))))

pub returns-in_err-key : goal.returns-in_err-key
returns-in_err-key c =
    rw c.from_residual-in_err-key.ensures (no_cas c.args.rest (version_no_key c.args.rest _ c.in_ok-table.table
    (omega arith) c.in_ok-table.ensures.sound.0 (c.key.ensures.complete (search rules))))

pub returns-in_err-version : goal.returns-in_err-version
returns-in_err-version c =
    rw c.from_residual-in_err-version.ensures (no_cas c.args.rest (version_no_version c.args.rest _
    c.in_ok-table.table (omega arith) c.in_ok-table.ensures.sound.0 _ c.in_ok-key.key.now
    c.in_ok-key.ensures.sound.1 c.in_ok-key.ensures.sound.0 (c.number-2.ensures.complete (search rules))))

pub returns-in_err-value : goal.returns-in_err-value
returns-in_err-value c =
    rw c.from_residual-in_err-value.ensures (no_cas c.args.rest (version_no_value c.args.rest _
    c.in_ok-table.table (omega arith) c.in_ok-table.ensures.sound.0 _ c.in_ok-key.key.now
    c.in_ok-key.ensures.sound.1 c.in_ok-key.ensures.sound.0 _ c.in_ok-version.version (omega arith)
    c.in_ok-version.ensures.sound.0 (c.value.ensures.complete (search rules))))

pub returns : goal.returns
returns c = record {
  spaced = ap (λ l. codes "cas" ++ 32 ∷ l) (read_version c.args.rest _ _ _ _ _ _ _ c.in_ok-table.ensures.sound.0
      c.in_ok-key.ensures.sound.0 c.in_ok-version.ensures.sound.0 c.in_ok-value.ensures.sound.0);
  limits = (omega arith, c.in_ok-key.ensures.sound.1, omega arith, c.in_ok-value.ensures.sound.1);
}
