use Rattle.std.proofs.Common.{ℕ, refl}
use Rattle.lines.specs.Grammar.{Clean}
use Rattle.answers.specs.driving.master.cleaner.declared.survivors.Survivors.{Survivors}
use Rattle.cluster.specs.Served.{cleaned}
use Rattle.cluster.specs.Told.{CleanRuns}
use Rattle.cluster.proofs.Steps.{of_clean, refusal_told, run_refused, run_told}
use Rattle.cluster.proofs.Standing.{down_run, down_told, not_up}
use Rattle.cluster.proofs.node.Node.clean.Goals as goal

pub returns-in-Ok-clause-told : goal.returns-in-Ok-clause-told
returns-in-Ok-clause-told c =
    run_told (Survivors × ℕ) (CleanRuns c.args.victims) cleaned c.args.self.now c.in-Up.up
    c.clean_all-outcome.new.master
    c.in-Up.is (Clean c.args.victims) (of_clean c.args.victims) c.show_valid-2.ensures c.in-Ok.ensures.goes_on
    (c.in-Ok.survivors, c.in-Ok.head) c.in-Ok.ensures.cleaned

pub returns-in-Err-clause-told : goal.returns-in-Err-clause-told
returns-in-Err-clause-told c =
    refusal_told (Survivors × ℕ) (CleanRuns c.args.victims) cleaned c.args.self.now c.in-Up.up
    c.clean_all-outcome.new.master c.in-Up.is (Clean c.args.victims) (of_clean c.args.victims)
    c.show_valid-2.ensures c.in-Err.ensures.goes_on c.in-Err.refusal c.in-Err.ensures.cleaned c.in-Err.ensures.spent
    (λ is. refl) c.refuse.new.self c.refuse.result c.refuse.ensures

pub returns-in-Err-clause-cleaned : goal.returns-in-Err-clause-cleaned
returns-in-Err-clause-cleaned c =
    run_refused (Survivors × ℕ) (CleanRuns c.args.victims) cleaned c.args.self.now c.in-Up.up
    c.clean_all-outcome.new.master c.in-Up.is c.in-Err.refusal c.in-Err.ensures.cleaned c.refuse.new.self
    c.refuse.result c.refuse.ensures

pub returns-in_default : goal.returns-in_default
returns-in_default c =
    let node = c.args.self.now in
    let down = not_up node c.in_default.not-Up in
    record {
      told = λ config. down_told node config (Clean c.args.victims) down refl;
      cleaned = down_run (CleanRuns c.args.victims) cleaned node down;
    }
