use Rattle.std.proofs.Common.{◌≡◌, Some, inl, inr, refl, subst, sym}
use Rattle.next_master.specs.master.master_state.declared.config.Config.{Config}
use Rattle.next_master.specs.master.master_state.Config.{config_fault}
use Rattle.next_master.specs.answers.Errors.{Writes}
use Rattle.next_master.specs.answers.Texts.{config_lines}
use Rattle.script.proofs.Turning.{begins_not}
use Rattle.script.proofs.program.run_options.Goals as goal

pub returns-in_default : goal.returns-in_default
returns-in_default g c =
    inr (record {
      result = _;
      errors = c.args.errors.now;
      checked = inr refl;
      run = begins_not c.args.is_raw _ _ _ _ _;
      reported = (c.report.ensures.lines, c.report.ensures.status);
    })

pub returns-in-Err : goal.returns-in-Err
returns-in-Err g c = inl (record {
  fault = c.in-Err.fault;
  found = subst (λ (k : Config). config_fault k ≡ Some c.in-Err.fault) c.in-Ok.ensures.config (sym c.in-Err.ensures);
  lines = subst (λ (k : Config). Writes c.args.errors.now c.report_config.new.errors
      (config_lines c.args.errors.now.explains k c.in-Err.fault))
      c.in-Ok.ensures.config c.report_config.ensures.lines;
  unread = refl;
  unwritten = refl;
  ends_with = c.report_config.ensures.status;
})
