use Rattle.store_folders.proofs.Moments.{rewritten}
use Rattle.store_folders.proofs.fresh.rewrite.Goals as goal

pub returns-in-Ok-switch-clause-any_moment : goal.returns-in-Ok-switch-clause-any_moment
returns-in-Ok-switch-clause-any_moment c goes_on =
    rewritten c.args.fleet.now c.members-2.result.now c.args.backup c.in-Ok.copied.id c.in-Ok.copied.journal
    c.switch.new.self.members.registry c.members-2.ensures c.in-Ok.ensures.id c.in-Ok.ensures.copied
    (c.switch.ensures.any_moment goes_on)

pub returns-clause-any_moment : goal.returns-clause-any_moment
returns-clause-any_moment c goes_on =
    rewritten c.args.fleet.now c.members-2.result.now c.args.backup c.in-Ok.copied.id c.in-Ok.copied.journal
    c.switch.new.self.members.registry c.members-2.ensures c.in-Ok.ensures.id c.in-Ok.ensures.copied
    (c.switch.ensures.any_moment goes_on)
