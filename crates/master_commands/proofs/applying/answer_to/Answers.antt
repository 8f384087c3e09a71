use Rattle.std.proofs.Common.{◌≡◌, Some, None, sym, subst, ◌∙◌}
use Rattle.versioned_map.specs.declared.command.Command.{Command}
use Rattle.master_state.specs.Causes.{command_refusal}
use Rattle.master_commands.proofs.applying.answer_to.Goals as goal

pub unreachable-requires : goal.unreachable-requires
unreachable-requires c =
    let never : None ≡ Some c.in-Err.field-0 =
    sym c.requires
    ∙ subst (λ (k : Command). command_refusal c.args.core.now k ≡ Some c.in-Err.field-0) c.view_command.ensures
    c.in-Err.ensures.refused in
    cc
