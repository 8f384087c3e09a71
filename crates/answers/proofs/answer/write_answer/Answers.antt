use Rattle.answers.proofs.answer.write_answer.Goals as goal

pub returns-in-NotRetired : goal.returns-in-NotRetired
returns-in-NotRetired g c = rw c.in-NotRetired.is c.write_take_fault.ensures

pub returns-in-NumbersSpent : goal.returns-in-NumbersSpent
returns-in-NumbersSpent g c = rw c.in-NumbersSpent.is c.hand-in-NumbersSpent.ensures

pub returns-in-Down : goal.returns-in-Down
returns-in-Down g c = rw c.in-Down.is c.hand-in-Down.ensures
