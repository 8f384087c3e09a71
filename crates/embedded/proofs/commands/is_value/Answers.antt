use Rattle.std.proofs.Common.{◌≡◌, arith, true}
use Rattle.embedded.proofs.commands.is_value.Goals as goal

pub returns-clause-value : goal.returns-clause-value
returns-clause-value c = λ yes.
    let most = c.is_value_len.ensures.0 yes in
    record { limit = omega (arith, most); each = λ i. omega (arith, c.type_inv.bytes i) }

pub returns-clause-none : goal.returns-clause-none
returns-clause-none c = λ no value.
    let most = value.limit in
    let yes : c.is_value_len.result ≡ true = c.is_value_len.ensures.1 (omega (arith, most)) in
    cc
