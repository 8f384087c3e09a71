use Rattle.std.proofs.Common.{◌≡◌, ◌≤◌, length, vec_len, vec_capacity}
use Rattle.master.specs.Keeps.{Keeps}
use Rattle.master.specs.Steps.{IsRun}
use Rattle.master.specs.World.{world}
use Rattle.master.proofs.master.Master.run.Given as goal

abbrev pub invariant-loop-step : goal.invariant-loop-step
invariant-loop-step g l = record {
  ran : IsRun (world g.F.Fleet.state l.fn.self) l.yielded l.answers.items (world g.F.Fleet.state l.self);
  keeps : Keeps (length l.yielded) (world g.F.Fleet.state l.fn.self) (world g.F.Fleet.state l.self);
  remembers : l.self.knows.forgotten ≡ l.fn.self.knows.forgotten;
  count : vec_len l.answers ≡ length l.yielded;
  room : length l.fn.steps ≤ vec_capacity l.answers;
}
