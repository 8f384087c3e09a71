use Rattle.entry.proofs.limits.Value.new.Goals as goal

pub returns : goal.returns
returns c = c.of_vec.ensures
