use Rattle.std.proofs.Common.{◌≡◌, arith, true}
use Rattle.embedded.proofs.commands.is_key.Goals as goal

pub returns-clause-key : goal.returns-clause-key
returns-clause-key c = λ yes.
    let n = c.is_key_len.ensures.0 yes in
    let least = n.0 in
    let most = n.1 in
    record {
      not_empty = omega (arith, least);
      limit = omega (arith, most);
      each = λ i. omega (arith, c.type_inv.bytes i);
    }

pub returns-clause-none : goal.returns-clause-none
returns-clause-none c = λ no key.
    let least = key.not_empty in
    let most = key.limit in
    let yes : c.is_key_len.result ≡ true = c.is_key_len.ensures.1 (omega (arith, least), omega (arith, most)) in
    cc
