use Rattle.std.proofs.Common.{◌≡◌, Bool, true, ℕ, List, ◌++◌, ◌∙◌, append-nil, subst, sym}
use Rattle.std.specs.Prelude.{codes}
use Rattle.std.specs.Fmt.{decimal}
use Rattle.recovery.specs.master.master_state.declared.config.Config.{Config}
use Rattle.recovery.specs.master.master_state.declared.config.ConfigFault.{ConfigFault}
use Rattle.recovery.specs.master.master_state.declared.config.ConfigFault.TheVariants.{BadBackups, BadSegment}
use Rattle.recovery.specs.master.master_state.declared.config.ConfigFault.TheVariants.{BadBudget}
use Rattle.recovery.specs.master.master_state.declared.config.ConfigFault.TheVariants.{BadLive}
use Rattle.answers.specs.Errors.{Errors, Writes}
use Rattle.answers.specs.Texts.{config_why_line, error_line}
use Rattle.answers.proofs.fault.write_config_why.Goals as goal

-- the output explains faults, and this is the fault
told : (a b : Errors) (c : Config) (fault kind : ConfigFault) → fault ≡ kind → a.explains ≡ true
    → Writes a b (config_why_line true c kind)
    → Writes a b (config_why_line a.explains c fault)
told a b c fault kind is explains writes =
    subst (λ (f : ConfigFault). Writes a b (config_why_line a.explains c f)) (sym is)
    (subst (λ (e : Bool). Writes a b (config_why_line e c kind)) (sym explains) writes)

pub returns-in-BadBackups : goal.returns-in-BadBackups
returns-in-BadBackups g c =
    told c.args.errors.now c.write_line.new.errors c.args.config.now c.args.fault BadBackups c.in-BadBackups.is
    (sym c.explains.ensures ∙ c.if-not-explains.false)
    (subst (λ (n : ℕ). Writes c.args.errors.now c.write_line.new.errors
    (error_line (codes "--replicas is more than --backups by " ++ decimal n)))
    c.saturating_sub-by.ensures c.write_line.ensures)

pub returns-in-BadSegment : goal.returns-in-BadSegment
returns-in-BadSegment g c =
    told c.args.errors.now c.write_line-in-BadSegment.new.errors c.args.config.now c.args.fault BadSegment
    c.in-BadSegment.is (sym c.explains.ensures ∙ c.if-not-explains.false)
    c.write_line-in-BadSegment.ensures

pub returns-in-BadBudget : goal.returns-in-BadBudget
returns-in-BadBudget g c =
    told c.args.errors.now c.write_line-in-BadBudget.new.errors c.args.config.now c.args.fault BadBudget
    c.in-BadBudget.is (sym c.explains.ensures ∙ c.if-not-explains.false)
    (subst (λ (n : ℕ). Writes c.args.errors.now c.write_line-in-BadBudget.new.errors
    (error_line (codes "--seglets is less than those of four segments by " ++ decimal n)))
    c.saturating_sub-by-in-BadBudget.ensures c.write_line-in-BadBudget.ensures)

pub returns-in-BadLive : goal.returns-in-BadLive
returns-in-BadLive g c =
    let text = codes "--live is more than a new master can always load" in
    told c.args.errors.now c.write_line-in-BadLive.new.errors c.args.config.now c.args.fault BadLive
    c.in-BadLive.is (sym c.explains.ensures ∙ c.if-not-explains.false)
    (subst (λ (l : List ℕ). Writes c.args.errors.now c.write_line-in-BadLive.new.errors (error_line l))
    (append-nil text) c.write_line-in-BadLive.ensures)
