use Rattle.std.proofs.Common.{◌≡◌, ◌⊎◌, Some, None, subst}
use Rattle.std.proofs.lemmas.Result.{err_from_is_err_and}
use Rattle.versioned_map.specs.declared.command.Command.{Command}
use Rattle.master_state.specs.declared.step.Refusal.TheVariants as refusal
use Rattle.master_state.specs.Causes.{command_refusal}
use Rattle.master_state.specs.Steps.{MayApplyNow}
use Rattle.master_commands.proofs.applying.apply.Goals as goal

pub returns-in_err-place-clause-refused : goal.returns-in_err-place-clause-refused
returns-in_err-place-clause-refused c =
    let d = c.args.core.now in
    let r = c.in_err-place.field-0.0 in
    let failed = err_from_is_err_and c.from_residual.result c.from_residual.ensures.1 in
    rw (failed.1, failed.2)
    (subst (λ (k : Command). (command_refusal d k ≡ Some r)
    ⊎ ((command_refusal d k ≡ None) × (r ≡ refusal.NoMemory)))
    c.view_command.ensures c.in_err-place.ensures.refused)

pub returns-clause-may : goal.returns-clause-may
returns-clause-may c =
    subst (λ (k : Command). MayApplyNow c.args.core.now c.args.seat k) c.view_command.ensures
    c.in_ok-place.ensures.may
