use Rattle.std.proofs.Common.{sym, ◌∙◌}
use Rattle.embedded.proofs.Living.{none_to_drop}
use Rattle.embedded.proofs.life.Life.crash.Goals as goal

pub returns-then-not-is_up : goal.returns-then-not-is_up
returns-then-not-is_up c = none_to_drop c.args.self.now (sym c.is_up.ensures ∙ c.if-not-is_up.true)
