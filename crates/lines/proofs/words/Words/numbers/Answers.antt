use Rattle.std.proofs.Common.{rules}
use Rattle.lines.proofs.NumberWords.{are_numbers, only_numbers}
use Rattle.lines.proofs.words.Words.numbers.Goals as goal

pub returns-then-is_row-clause-sound : goal.returns-then-is_row-clause-sound
returns-then-is_row-clause-sound c = rw (← c.self.view_is) (are_numbers _ (c.is_row.ensures.0 c.if-is_row.true))

pub returns-else-is_row-clause-complete : goal.returns-else-is_row-clause-complete
returns-else-is_row-clause-complete c = λ _ ns are.
    let row = only_numbers c.args.self ns are in
    search rules
