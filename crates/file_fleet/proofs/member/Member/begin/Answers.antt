use Rattle.std.proofs.Common.{◌∙◌, ap, rules}
use Rattle.file_backup.specs.Replay.{Replicas}
use Rattle.file_fleet.proofs.member.Member.begin.Goals as goal

pub returns-in-Ok-clause-fresh : goal.returns-in-Ok-clause-fresh
returns-in-Ok-clause-fresh g c = λ live nothing. record {
  member = (search rules);
  goes_on = (search rules);
  live = live;
  nothing = λ m s. ap (λ (p : Replicas). p m s) c.begin.ensures.same ∙ nothing m s;
}
