use Rattle.std.proofs.Common.{◌≡◌, ◌∙◌, ℕ, List, ap, arith, max, subst, suc, sym}
use Rattle.replica.specs.declared.holding.Holding.{Holding}
use Rattle.recovery.specs.master.master_state.declared.config.Config.{Config}
use Rattle.backup.specs.State.{fleet_state}
use Rattle.embedded.specs.Next.{greatest_of}
use Rattle.embedded.specs.Options.{config_of}
use Rattle.embedded.proofs.Numbers.{next_unused}
use Rattle.embedded.proofs.next.next_config.Goals as goal

pub returns-clause-config : goal.returns-clause-config
returns-clause-config c =
    let config = c.in-Ok-configuration.config in
    let is = c.in-Ok-configuration.ensures in
    let number : config.master ≡ c.in-Some.number = ap (λ (k : Config). k.master) is in
    let next : c.in-Some.number ≡ suc (max c.args.used (greatest_of c.in-Ok.inventory)) =
    subst (λ (hs : List Holding). c.in-Some.number ≡ suc (max c.args.used (greatest_of hs))) c.as_slice.ensures
    c.in-Some.ensures in
    record {
      same = is ∙ ap (λ (n : ℕ). config_of c.args.options.now n) (sym number);
      above = omega (arith, number, next);
      may = record {
        fit = c.is_fit.ensures c.if-not-is_fit.false;
        none = next_unused c.in-Ok.inventory (fleet_state c.args.fleet.now).picture c.args.used config.master
            c.in-Ok.ensures.shown (number ∙ next);
      };
    }
