use Rattle.std.proofs.Common.{List, drop, length, ap, ◌∙◌, arith}
use Rattle.std.proofs.lemmas.List.{length-drop}
use Rattle.cleaner.specs.declared.ahead.Seen.{Seen}
use Rattle.cleaner.proofs.Reading.{rest_left}
use Rattle.cleaner.proofs.ahead.Ahead.pass.Goals as goal

pub overflow_add-self : goal.overflow_add-self
overflow_add-self c =
    let items = c.self.inside.seen.items in
    let some = ap (λ (xs : List Seen). length xs) c.self.view_is in
    omega (arith, c.requires, some, length-drop c.self.inside.treated items, c.len-read.ensures, c.len-read.type_inv)

pub returns-clause-rest : goal.returns-clause-rest
returns-clause-rest c =
    rest_left c.self.inside.seen.items c.self.inside.treated ∙ ap (λ (xs : List Seen). drop 1 xs) c.self.view_is
