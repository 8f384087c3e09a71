use Rattle.std.proofs.Common.{arith}
use Rattle.entry.specs.Key.{IsBytes}
use Rattle.entry.proofs.FrontLemmas.{found_of}
use Rattle.entry.proofs.reading.read_as.Goals as goal

pub returns-clause-found : goal.returns-clause-found
returns-clause-found c =
    let bytes = c.args.bytes.now in
    let fits : IsBytes bytes = λ i. omega (arith, c.type_inv.bytes i) in
    found_of c.args.kind bytes c.read_kind.result fits c.requires.first c.read_kind.ensures
