use Rattle.rebuild_threads.proofs.threads.rebuild_threads.Given as goal

abbrev pub ghosts-rebuild_on : goal.ghosts-rebuild_on
ghosts-rebuild_on g a = record { segments = a.plan.now.segments; parts = a.will.now; safe = a.plan.now.safe }
