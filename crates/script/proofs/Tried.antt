-- What the line of a command comes to, by what its try came to.
use Rattle.std.proofs.Common.{◌≡◌, ◌∙◌, refl, sym, subst}
use Rattle.std.specs.Prelude.{ℕ, Some, None}
use Rattle.lines.specs.Grammar.{LineValue}
use Rattle.versioned_map.specs.declared.command.Command.{Command}
use Rattle.next_master.specs.master.master_state.declared.config.Config.{Config}
use Rattle.next_master.specs.answers.declared.answer.Answer.{Answer}
use Rattle.next_master.specs.cluster.declared.node.Node.{Node}
use Rattle.next_master.specs.cluster.Served.{AnswersLine}
use Rattle.next_master.specs.cluster.Told.{command_of}
use Rattle.next_master.specs.answers.declared.answer.Answer.TheVariants as answers
use Rattle.next_master.specs.cluster.declared.tried.Tried.TheVariants as tried
use Rattle.next_master.specs.cluster.Tended.{MakesTended, TellsLine, steps_behind}
use Rattle.next_master.specs.cluster.Waits.{MakesTry, MakesTryAfterRoll, Serves, WaitsForRoll}
use Rattle.cluster_lines.proofs.Lines.{command_makes}
use Rattle.next_master.proofs.of_cluster.BesideCleaner.{plain_makes}
use Rattle.next_master.proofs.of_cluster.Tries.{tried_makes, waited_makes}
use Rattle.script.specs.declared.session.Session.{Session}
use Rattle.script.specs.Sessions.{AnswersAfterRoll, SessionAnswers, TriesCommand}
use Rattle.next_master.specs.Configuration.{MayBegin}
use Rattle.next_master.specs.declared.later.Later.{Later}
use Rattle.command_line.specs.declared.settings.Options.{Options}
use Rattle.script.proofs.Sessions.{command_keeps, command_keeps_later, command_keeps_word, command_shows, node_answers}

-- a command's line, which changes just the node
command_answers : (first : Session) (node : Node) (line : LineValue) (command : Command)
    → command_of line ≡ Some command → (answer : Answer)
    → ((config : Config) → AnswersLine first.node config line node answer)
    → MakesTended (steps_behind first.options.tend command) first.node command node answer
    → SessionAnswers first line (record first { node = node }) answer
command_answers first node line command asks answer told makes = node_answers first line node answer
    (λ config number. told config) (command_makes first.options.tend first.node line node answer command asks makes)
    (command_keeps first line (record first { node = node }) answer refl command asks)
    (command_keeps_word first line (record first { node = node }) answer refl command asks)
    (sym (command_keeps_later line first.later command asks)) (command_shows first line answer command asks)

-- a command whose try has this answer
pub tried_answers : (first : Session) (node : Node) (line : LineValue) (command : Command)
    → command_of line ≡ Some command → (answer : Answer) → Serves first.node command node (Some answer)
    → MakesTry first.node command node (Some answer) → steps_behind first.options.tend command ≡ 0
    → SessionAnswers first line (record first { node = node }) answer
tried_answers first node line command asks answer serves makes plain = command_answers first node line command asks
    answer (λ config. serves config line asks)
    (plain_makes _ _ _ command answer plain (tried_makes _ _ command answer makes))

-- a command that waits for a roll
pub waited_answers : (first : Session) (node : Node) (line : LineValue) (command : Command)
    → command_of line ≡ Some command → (last : Session) (answer : Answer) → Serves first.node command node None
    → MakesTry first.node command node None → AnswersAfterRoll (record first { node = node }) line last answer
    → steps_behind first.options.tend command ≡ 0 → SessionAnswers first line last answer
waited_answers first node line command asks last answer waits makes ran plain = record {
  number = ran.number;
  options = ran.options;
  used = ran.used;
  covers = λ all. ran.covers all.0;
  answers = λ config number. ran.answers first.node config command asks (waits config);
  makes = command_makes first.options.tend _ line _ answer command asks
      (plain_makes _ _ _ command answer plain (waited_makes _ _ _ command answer makes (ran.makes command asks)));
  wills = command_keeps first line last answer ran.will command asks;
  word = command_keeps_word first line last answer ran.known command asks;
  later = ran.later ∙ sym (command_keeps_later line first.later command asks);
  begins = λ all. subst (λ (l : Later). MayBegin l last.options) (sym ran.later)
      (subst (λ (o : Options). MayBegin first.later o) (sym ran.options) all.3);
  shows = command_shows first line answer command asks;
}

-- a command that was tried again behind the roll that it waited for
pub after_roll : (mid : Session) (line : LineValue) (node : Node) (answer : Answer)
    → ((old : Node) (config : Config) (command : Command) → command_of line ≡ Some command
    → WaitsForRoll old config command mid.node → AnswersLine old config line node answer)
    → ((command : Command) → command_of line ≡ Some command → MakesTryAfterRoll mid.node command node answer)
    → AnswersAfterRoll mid line (record mid { node = node }) answer
after_roll mid line node answer told makes = record {
  number = refl;
  options = refl;
  used = refl;
  covers = λ all. all;
  answers = told;
  makes = makes;
  will = refl;
  known = refl;
  later = refl;
}

-- a command that has its reply at once
pub replied_answers : (first now : Session) (line : LineValue) (place : ℕ)
    → (t : TriesCommand first line now (tried.Replied place)) → SessionAnswers first line now (answers.Reply t.tries.0)
replied_answers first now line place t =
    subst (λ (s : Session). SessionAnswers first line s (answers.Reply t.tries.0)) (sym t.rest)
    (tried_answers first now.node line t.command t.asks (answers.Reply t.tries.0) t.tries.2 t.tries.3 t.plain)

-- a command behind which the cleaner makes steps
pub tended_answers : (first : Session) (node : Node) (line : LineValue) (command : Command) (steps : ℕ)
    → command_of line ≡ Some command → steps_behind first.options.tend command ≡ steps → (answer : Answer)
    → TellsLine first.node command node answer → MakesTended steps first.node command node answer
    → SessionAnswers first line (record first { node = node }) answer
tended_answers first node line command steps asks are answer told makes = command_answers first node line command asks
    answer (λ config. told config line asks)
    (subst (λ (n : ℕ). MakesTended n first.node command node answer) (sym are) makes)
