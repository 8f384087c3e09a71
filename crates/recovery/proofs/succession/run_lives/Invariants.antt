use Rattle.std.proofs.Common.{◌≡◌, ◌≤◌, length, take, vec_len, vec_capacity}
use Rattle.replay.specs.master.World.{world}
use Rattle.recovery.specs.Succession.{IsNewest, AreLived, with_number}
use Rattle.recovery.proofs.succession.run_lives.Given as goal

abbrev pub invariant-loop-course : goal.invariant-loop-course
invariant-loop-course g l = record {
  lived : AreLived (world g.F.Fleet.state l.fn.master) (take l.course-index l.courses) l.lived.items
      (world g.F.Fleet.state l.up);
  newest : IsNewest l.up.knows.config.master (g.F.Fleet.state l.up.fleet);
  config : l.up.knows.config ≡ with_number l.up.knows.config.master l.config;
  count : vec_len l.lived ≡ l.course-index;
  room : length l.courses ≤ vec_capacity l.lived;
}
