use Rattle.std.proofs.Common.{◌≡◌, ◌++◌, take, drop}
use Rattle.master_space.specs.Choosing.{placed}
use Rattle.master_space.proofs.candidates.place_for.Given as goal

abbrev pub invariant-loop-at : goal.invariant-loop-at
invariant-loop-at l =
    placed l.candidate l.candidates ≡ take l.at l.candidates ++ placed l.candidate (drop l.at l.candidates)
