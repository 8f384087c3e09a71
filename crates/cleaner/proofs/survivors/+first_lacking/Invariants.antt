use Rattle.cleaner.proofs.survivors.+first_lacking.Given as goal

abbrev pub decreases-first_lacking : goal.decreases-first_lacking
decreases-first_lacking l = l.survivors.count
