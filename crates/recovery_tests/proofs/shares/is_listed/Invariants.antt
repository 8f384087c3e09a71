use Rattle.std.proofs.Common.{◌∷◌, []}
use Rattle.recovery_tests.proofs.shares.is_listed.Given as goal

abbrev pub ghosts-is_listed_of : goal.ghosts-is_listed_of
ghosts-is_listed_of a = record { segments = a.segment.now ∷ []; parts = a.will.now; safe = 1 }
