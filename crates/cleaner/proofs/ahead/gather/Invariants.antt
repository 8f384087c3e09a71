use Rattle.cleaner.proofs.Reading.{IsGathered}
use Rattle.cleaner.proofs.ahead.gather.Given as goal

abbrev pub invariant-loop : goal.invariant-loop
invariant-loop l = IsGathered l.index.held.seed l.segment l.fn.from l.counter l.at l.seen.items
