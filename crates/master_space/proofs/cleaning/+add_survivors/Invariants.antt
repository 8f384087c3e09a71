use Rattle.master_space.proofs.cleaning.+add_survivors.Given as goal

abbrev pub decreases-add_survivors : goal.decreases-add_survivors
decreases-add_survivors l = l.survivors.count
