use Rattle.counted_calls.proofs.closing.take_back.Goals as goal

pub returns-in-Err-clause-known : goal.returns-in-Err-clause-known
returns-in-Err-clause-known g c = λ is. absurd (cc)
