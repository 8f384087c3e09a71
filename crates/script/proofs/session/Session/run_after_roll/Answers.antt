use Rattle.std.proofs.Common.{refl}
use Rattle.lines.specs.Grammar.{shown_command}
use Rattle.history.specs.View.{shown_command as lent_command}
use Rattle.next_master.specs.master.master_state.declared.step.Refusal.TheVariants.{Rolling}
use Rattle.next_master.specs.answers.declared.answer.Answer.TheVariants as answers
use Rattle.next_master.proofs.of_cluster.Rolls.{no_room_told, rolling_told, room_told}
use Rattle.next_master.proofs.of_cluster.Tries.{not_rolled_makes, of_command, rolled_makes, rolling_makes}
use Rattle.script.proofs.Tried.{after_roll}
use Rattle.script.proofs.session.Session.run_after_roll.Goals as goal

pub returns-in-Err : goal.returns-in-Err
returns-in-Err c =
    let line = shown_command c.args.line in
    let answer = c.in-Err.answer in (
      answer,
      refl,
      after_roll c.args.self.now line _ answer
          (λ old config command asks waits. no_room_told old _ _ config line command answer asks waits
          (c.in-Err.ensures.told config))
          (λ command asks. not_rolled_makes c.args.self.now.node _ command answer c.in-Err.ensures.rolled),
    )

pub returns-in-Replied : goal.returns-in-Replied
returns-in-Replied c =
    let t = c.in-Replied.ensures in
    let line = shown_command c.args.line in
    let answer = answers.Reply t.0 in
    let tried = lent_command c.line_command.result in (
      answer,
      (t.0, t.1, refl),
      after_roll c.args.self.now line _ answer
          (λ old config command asks waits. room_told old _ _ _ config line command answer waits
          (c.in_default.ensures.told config) (t.2 config line c.line_command.ensures))
          (λ command asks. of_command line _ command c.line_command.ensures asks _ _ answer
          (rolled_makes c.args.self.now.node _ _ tried answer c.in_default.ensures.rolled t.3)),
    )

pub returns-in-Refused : goal.returns-in-Refused
returns-in-Refused c =
    let t = c.in-Refused.ensures.1 c.refuse.new.self c.refuse.result c.refuse.ensures in
    let line = shown_command c.args.line in
    let answer = c.refuse.result in
    let tried = lent_command c.line_command.result in (
      answer,
      refl,
      after_roll c.args.self.now line _ answer
          (λ old config command asks waits. room_told old _ _ _ config line command answer waits
          (c.in_default.ensures.told config) (t.0 config line c.line_command.ensures))
          (λ command asks. of_command line _ command c.line_command.ensures asks _ _ answer
          (rolled_makes c.args.self.now.node _ _ tried answer c.in_default.ensures.rolled t.1)),
    )

pub returns-in-Down : goal.returns-in-Down
returns-in-Down c =
    let t = c.in-Down.ensures in
    let line = shown_command c.args.line in
    let answer = answers.Down in
    let tried = lent_command c.line_command.result in (
      answer,
      refl,
      after_roll c.args.self.now line _ answer
          (λ old config command asks waits. room_told old _ _ _ config line command answer waits
          (c.in_default.ensures.told config) (t.0 config line c.line_command.ensures))
          (λ command asks. of_command line _ command c.line_command.ensures asks _ _ answer
          (rolled_makes c.args.self.now.node _ _ tried answer c.in_default.ensures.rolled t.1)),
    )

pub returns-in-Waits : goal.returns-in-Waits
returns-in-Waits c =
    let t = c.in-Waits.ensures in
    let line = shown_command c.args.line in
    let answer = answers.Refused Rolling in
    let tried = lent_command c.line_command.result in (
      answer,
      refl,
      after_roll c.args.self.now line _ answer
          (λ old config command asks waits. room_told old _ _ _ config line command answer waits
          (c.in_default.ensures.told config)
          (rolling_told _ _ config line tried c.line_command.ensures (t.0 config)))
          (λ command asks. of_command line _ command c.line_command.ensures asks _ _ answer
          (rolling_makes c.args.self.now.node _ _ tried c.in_default.ensures.rolled t.1)),
    )
