use Rattle.lines.proofs.NumberWords.{no_row, row_of}
use Rattle.lines.proofs.words.is_row.Goals as goal

pub returns-in-Some : goal.returns-in-Some
returns-in-Some c = rw c.in-Some.is (row_of c.in-Some.text.now _ c.are_numbers.ensures)

pub returns-in-None : goal.returns-in-None
returns-in-None c = rw c.in-None.is no_row
