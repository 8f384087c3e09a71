use Rattle.std.proofs.Common.{◌+◌, ◌-◌, ◌≤◌, length, vec_len}
use Rattle.std.specs.Vec.{vec_capacity}
use Rattle.master_space.proofs.Ordering.{IsFitting}
use Rattle.master_space.proofs.choosing.fitting.Given as goal

abbrev pub invariant-loop-candidate : goal.invariant-loop-candidate
invariant-loop-candidate l = record {
  fits : IsFitting l.core l.candidates l.candidate-index l.victims.items l.level;
  room : vec_len l.victims + (length l.candidates - l.candidate-index) ≤ vec_capacity l.victims;
}
