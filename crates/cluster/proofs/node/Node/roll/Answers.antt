use Rattle.std.proofs.Common.{ℕ, refl, subst, sym}
use Rattle.lines.specs.Grammar.{Roll}
use Rattle.backup.specs.State.{fleet_state}
use Rattle.answers.specs.driving.master.World.{world}
use Rattle.answers.specs.driving.Rolls.{IsRolled}
use Rattle.answers.specs.declared.answer.Answer.TheVariants.{Head}
use Rattle.cluster.specs.Told.{RollRuns}
use Rattle.cluster.proofs.Steps.{of_roll, refusal_told, run_makes, run_refused, run_told}
use Rattle.cluster.proofs.Standing.{down_run, down_told, not_up}
use Rattle.cluster.proofs.node.Node.roll.Goals as goal

pub returns-in-Ok-clause-told : goal.returns-in-Ok-clause-told
returns-in-Ok-clause-told c =
    let up = c.in-Up.up in
    let m = c.roll_all-outcome.new.master in
    run_told ℕ RollRuns Head c.args.self.now up m c.in-Up.is Roll of_roll c.show_valid-2.ensures
    c.in-Ok.ensures.goes_on c.head-head.result
    (subst (λ id. IsRolled (world fleet_state up) id (world fleet_state m)) (sym c.head-head.ensures)
    c.in-Ok.ensures.rolled)

pub returns-in-Ok-clause-rolled : goal.returns-in-Ok-clause-rolled
returns-in-Ok-clause-rolled c =
    let up = c.in-Up.up in
    let m = c.roll_all-outcome.new.master in
    run_makes ℕ RollRuns Head c.args.self.now up m c.in-Up.is c.head-head.result
    (subst (λ id. IsRolled (world fleet_state up) id (world fleet_state m)) (sym c.head-head.ensures)
    c.in-Ok.ensures.rolled) refl

pub returns-in-Err-clause-told : goal.returns-in-Err-clause-told
returns-in-Err-clause-told c =
    refusal_told ℕ RollRuns Head c.args.self.now c.in-Up.up c.roll_all-outcome.new.master c.in-Up.is Roll of_roll
    c.show_valid-2.ensures c.in-Err.ensures.goes_on c.in-Err.refusal c.in-Err.ensures.refused c.in-Err.ensures.spent
    (λ is. refl) c.refuse.new.self c.refuse.result c.refuse.ensures

pub returns-in-Err-clause-rolled : goal.returns-in-Err-clause-rolled
returns-in-Err-clause-rolled c =
    run_refused ℕ RollRuns Head c.args.self.now c.in-Up.up c.roll_all-outcome.new.master c.in-Up.is c.in-Err.refusal
    c.in-Err.ensures.refused c.refuse.new.self c.refuse.result c.refuse.ensures

pub returns-in_default : goal.returns-in_default
returns-in_default c =
    let node = c.args.self.now in
    let down = not_up node c.in_default.not-Up in
    record { told = λ config. down_told node config Roll down refl; rolled = down_run RollRuns Head node down }
