use Rattle.store_folders.proofs.Moments.{renewed}
use Rattle.store_folders.proofs.fresh.renew.Goals as goal

pub returns-in-Ok-switch-clause-any_moment : goal.returns-in-Ok-switch-clause-any_moment
returns-in-Ok-switch-clause-any_moment c goes_on =
    renewed c.args.members.now c.args.backup _ _ _ c.switch.new.self.registry c.in-Ok.ensures.id
    c.in-Ok.ensures.copied (c.switch.ensures.any_moment goes_on)

pub returns-clause-any_moment : goal.returns-clause-any_moment
returns-clause-any_moment c goes_on =
    renewed c.args.members.now c.args.backup _ _ _ c.switch.new.self.registry c.in-Ok.ensures.id
    c.in-Ok.ensures.copied (c.switch.ensures.any_moment goes_on)
