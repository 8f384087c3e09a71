use Rattle.bytes_tests.proofs.Ends.{ends_listed}
use Rattle.bytes_tests.proofs.large.ends_with_segment.Goals as goal

pub returns-in-Some : goal.returns-in-Some
returns-in-Some c = λ yes. ends_listed c.args.id c.args.segments.now c.in-Some.last.now c.in-Some.ensures.value yes
