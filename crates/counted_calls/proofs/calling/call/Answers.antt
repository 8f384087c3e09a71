use Rattle.counted_calls.proofs.calling.call.Goals as goal

pub returns-in-Err-clause-one : goal.returns-in-Err-clause-one
returns-in-Err-clause-one g c = tt
