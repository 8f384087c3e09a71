use Rattle.history.specs.View.{shown_command}
use Rattle.answers.specs.declared.answer.Answer.TheVariants as answer
use Rattle.answers.specs.driving.master.master_state.declared.step.Refusal.TheVariants.{Rolling}
use Rattle.cluster.proofs.BesideCleaner.{open_no_reply, refuses_no_reply}
use Rattle.cluster.proofs.Rolls.{no_room_told, rolling_told, room_told}
use Rattle.cluster.proofs.Tries.{not_rolled_makes, rolled_makes, rolling_makes}
use Rattle.cluster.proofs.node.Node.run_after_roll.Goals as goal

pub returns-in-Err : goal.returns-in-Err
returns-in-Err c =
    let command = shown_command c.args.command.now in
    let a = c.in-Err.answer in (
      (λ old config line asks waits. no_room_told old _ _ config line command a asks waits
          (c.in-Err.ensures.told config)),
      not_rolled_makes _ _ command a c.in-Err.ensures.rolled,
      open_no_reply _ _ a c.in-Err.ensures.rolled,
    )

pub returns-in-Replied : goal.returns-in-Replied
returns-in-Replied c =
    let t = c.in-Replied.ensures in
    let command = shown_command c.args.command.now in
    let a = answer.Reply t.0 in (
      t.0,
      t.1,
      (λ old config line asks waits. room_told old _ _ _ config line command a waits
          (c.in_default.ensures.told config) (t.2 config line asks)),
      rolled_makes _ _ _ command a c.in_default.ensures.rolled t.3,
    )

pub returns-in-Waits : goal.returns-in-Waits
returns-in-Waits c =
    let t = c.in-Waits.ensures in
    let command = shown_command c.args.command.now in
    let a = answer.Refused Rolling in (
      (λ old config line asks waits. room_told old _ _ _ config line command a waits
          (c.in_default.ensures.told config) (rolling_told _ _ config line command asks (t.0 config))),
      rolling_makes _ _ _ command c.in_default.ensures.rolled t.1,
      λ reply is. cc,
    )

pub returns-in-Refused : goal.returns-in-Refused
returns-in-Refused c =
    let t = c.in-Refused.ensures.1 c.refuse.new.self c.refuse.result c.refuse.ensures in
    let command = shown_command c.args.command.now in
    let a = c.refuse.result in (
      (λ old config line asks waits. room_told old _ _ _ config line command a waits
          (c.in_default.ensures.told config) (t.0 config line asks)),
      rolled_makes _ _ _ command a c.in_default.ensures.rolled t.1,
      refuses_no_reply _ _ _ a c.refuse.ensures,
    )

pub returns-in-Down : goal.returns-in-Down
returns-in-Down c =
    let t = c.in-Down.ensures in
    let command = shown_command c.args.command.now in
    let a = answer.Down in (
      (λ old config line asks waits. room_told old _ _ _ config line command a waits
          (c.in_default.ensures.told config) (t.0 config line asks)),
      rolled_makes _ _ _ command a c.in_default.ensures.rolled t.1,
      λ reply is. cc,
    )
