use Rattle.std.proofs.Common.{arith}
use Rattle.script.proofs.line_commands.key_ref.Goals as goal

pub invariant_of-result : goal.invariant_of-result
invariant_of-result c = record {
  limits = record {
    not_empty = c.requires.some;
    limit = c.requires.short;
    each = λ i. omega (arith, c.type_inv.bytes i);
  };
}
