use Rattle.std.proofs.Common.{◌≡◌, Some, None, sym, subst}
use Rattle.versioned_map.specs.declared.command.Command.{Command}
use Rattle.master_state.specs.Causes.{command_refusal}
use Rattle.master_commands.proofs.applying.would.Goals as goal

pub returns-in-Ok : goal.returns-in-Ok
returns-in-Ok c =
    subst (λ (k : Command). None ≡ command_refusal c.args.core.now k) c.view_command.ensures
    (sym c.in-Ok.ensures.passed)

pub returns-in-Err : goal.returns-in-Err
returns-in-Err c =
    subst (λ (k : Command). Some c.in-Err.refusal ≡ command_refusal c.args.core.now k) c.view_command.ensures
    (sym c.in-Err.ensures.refused)
