use Rattle.bytes_tests.proofs.Ends.{ends_last}
use Rattle.bytes_tests.proofs.large.ends_with.Goals as goal

pub returns-in-Some : goal.returns-in-Some
returns-in-Some c = λ yes. ends_last c.args.id c.args.ids.now c.in-Some.last.now c.in-Some.ensures.value yes
