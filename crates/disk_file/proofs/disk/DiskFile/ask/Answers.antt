use Rattle.std.proofs.Common.{◌∙◌, ap, sym}
use Rattle.disk_file.specs.Standing.{FileStanding}
use Rattle.disk_file.proofs.Failures.{standing_failed}
use Rattle.disk_file.proofs.disk.DiskFile.ask.Goals as goal

pub invariant_of-self-in-Err : goal.invariant_of-self-in-Err
invariant_of-self-in-Err c =
    let fails = standing_failed c.args.call _ _ c.in-Err.ensures.noted in
    record {
      named = ap (λ (s : FileStanding). s.is_named) fails ∙ c.args.self.now.named;
      known = ap (λ (s : FileStanding). s.is_known) fails ∙ c.args.self.now.known;
      failed = ap (λ (s : FileStanding). s.has_failed) fails;
    }

pub returns-in-Ok-clause-ok : goal.returns-in-Ok-clause-ok
returns-in-Ok-clause-ok c = (
  c.in-Ok.ensures.noted,
  c.args.self.now.failed ∙ sym c.is_some.ensures ∙ c.if-is_some.false,
  c.in-Ok.ensures.answer,
)
