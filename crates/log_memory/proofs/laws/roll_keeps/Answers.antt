use Rattle.log_memory.proofs.Committing.{commit_keeps, finish_keeps}
use Rattle.log_memory.proofs.Ending.{end_keeps}
use Rattle.log_memory.proofs.Rolling.{roll_keeps}
use Rattle.log_memory.proofs.laws.roll_keeps.Goals as goal

pub returns : goal.returns
returns c = record { begins = roll_keeps; commits = commit_keeps; ends = end_keeps; finishes = finish_keeps }
