use Rattle.std.proofs.Common.{ℕ, ◌<◌, ◌≡◌, ◌∙◌, ap, refl, subst, true}
use Rattle.std.specs.Prelude.{None}
use Rattle.lines.specs.Grammar.{Tend}
use Rattle.answers.specs.driving.master.master_state.Data.{MasterData}
use Rattle.answers.specs.driving.master.master_space.Choosing.{next_step}
use Rattle.answers.specs.declared.answer.Answer.TheVariants.{Tended}
use Rattle.tending.specs.declared.policy.Policy.{Policy}
use Rattle.tending.specs.Low.{is_low, usual_for}
use Rattle.cluster.specs.Told.{TendRuns}
use Rattle.cluster.proofs.Steps.{of_tend, refusal_told, run_makes, run_refused, run_told}
use Rattle.cluster.proofs.Standing.{down_run, down_told, not_up}
use Rattle.cluster.proofs.node.Node.tend.Goals as goal

-- a cleaner that made fewer steps may rest
abbrev Rests : Policy → ℕ → ℕ → MasterData → Type 0
Rests p made most d = made < most → is_low p d ≡ true → next_step d ≡ None

pub returns-in-Ok-clause-told : goal.returns-in-Ok-clause-told
returns-in-Ok-clause-told c =
    let m = c.tend-outcome.new.master in
    let n = c.args.steps in
    let able : Rests (usual_for c.in-Up.up.knows.config) c.in-Ok.made n m.knows =
    subst (λ (p : Policy). Rests p c.in-Ok.made n m.knows) (c.of-policy.ensures ∙ ap usual_for c.config.ensures)
    c.in-Ok.ensures.able in
    run_told ℕ (TendRuns n) Tended c.args.self.now c.in-Up.up m c.in-Up.is (Tend n) (of_tend n)
    c.show_valid-2.ensures c.in-Ok.ensures.goes_on c.in-Ok.made (c.in-Ok.ensures.tended, able)

pub returns-in-Ok-clause-tended : goal.returns-in-Ok-clause-tended
returns-in-Ok-clause-tended c =
    let m = c.tend-outcome.new.master in
    let n = c.args.steps in
    let able : Rests (usual_for c.in-Up.up.knows.config) c.in-Ok.made n m.knows =
    subst (λ (p : Policy). Rests p c.in-Ok.made n m.knows) (c.of-policy.ensures ∙ ap usual_for c.config.ensures)
    c.in-Ok.ensures.able in
    run_makes ℕ (TendRuns n) Tended c.args.self.now c.in-Up.up m c.in-Up.is c.in-Ok.made
    (c.in-Ok.ensures.tended, able) refl

pub returns-in-Err-clause-told : goal.returns-in-Err-clause-told
returns-in-Err-clause-told c =
    refusal_told ℕ (TendRuns c.args.steps) Tended c.args.self.now c.in-Up.up c.tend-outcome.new.master c.in-Up.is
    (Tend c.args.steps) (of_tend c.args.steps) c.show_valid-2.ensures c.in-Err.ensures.goes_on c.in-Err.refusal
    c.in-Err.ensures.refused c.in-Err.ensures.spent (λ is. refl) c.refuse.new.self c.refuse.result c.refuse.ensures

pub returns-in-Err-clause-tended : goal.returns-in-Err-clause-tended
returns-in-Err-clause-tended c =
    run_refused ℕ (TendRuns c.args.steps) Tended c.args.self.now c.in-Up.up c.tend-outcome.new.master c.in-Up.is
    c.in-Err.refusal c.in-Err.ensures.refused c.refuse.new.self c.refuse.result c.refuse.ensures

pub returns-in_default : goal.returns-in_default
returns-in_default c =
    let node = c.args.self.now in
    let down = not_up node c.in_default.not-Up in
    record {
      told = λ config. down_told node config (Tend c.args.steps) down refl;
      tended = down_run (TendRuns c.args.steps) Tended node down;
    }
