use Rattle.fleet_tests.proofs.lives.+are_kept.Given as goal

abbrev pub decreases-are_kept : goal.decreases-are_kept
decreases-are_kept l = l.lives
