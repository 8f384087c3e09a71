-- Later masters may begin: no line raises the least head of one.
use Rattle.std.proofs.Common.{ℕ, ◌≤◌, inl, inr, refl, sym, subst, arith}
use Rattle.std.specs.Prelude.{Option, IfSome}
use Rattle.command_line.specs.declared.settings.Options.{Options}
use Rattle.lines.specs.Grammar.{LineValue}
use Rattle.replica.specs.Picture.{FleetState}
use Rattle.next_master.specs.master.master_state.declared.step.Refusal.TheVariants as refusal
use Rattle.next_master.specs.master.master_state.Data.{MasterData}
use Rattle.next_master.specs.master.Registry.{AreUnraisedAbove}
use Rattle.next_master.specs.answers.declared.answer.Answer.{Answer}
use Rattle.next_master.proofs.of_driving.LeastHeads.{until_leaves}
use Rattle.next_master.specs.cluster.Lives.{Position}
use Rattle.next_master.specs.cluster.Served.{IsNodeAt, fleet_of}
use Rattle.next_master.proofs.of_cluster.LeastHeads.{in_world, made_unraised, stands_up_to}
use Rattle.cluster_lines.proofs.Lines.{line_unraised as node_unraised}
use Rattle.next_master.specs.Configuration.{config_of, later_options}
use Rattle.next_master.proofs.HowItEnds.{ends_unraised}
use Rattle.script.specs.declared.session.Session.{Session}
use Rattle.script.specs.Sessions.{BeginsSession, AreLaterUnraised, RunsLine, SessionRecovers, EndsFor, asked_of}
use Rattle.script.specs.Sessions.{new_world}

-- ---- numbers

-- no line makes a master with a greater number than those that were used
pub line_numbers : (old new : Session) (line : LineValue) (a : Answer) → RunsLine old line new a
    → old.master ≤ old.used → new.master ≤ new.used
line_numbers old new line a (inl r) within =
    let number = r.number in let used = r.used in omega (arith, within, number, used)
line_numbers old new line a (inr r) within =
    let rises = r.numbers.rises in
    elim r.numbers.fresh as (λ _. new.master ≤ new.used) [
      | inl same ↦ omega (arith, within, rises, same)
      | inr e ↦ let same = e.1 in omega (arith, same)
    ]

-- ---- least heads

-- a new fleet's least heads are 0, and the first pushes leave those of other masters
pub begins_unraised : (options : Options) (s : Session) → BeginsSession options s → AreLaterUnraised s
begins_unraised options s begins =
    let w = begins.begins.0 in
    let start = new_world (config_of options 1) in
    let below : 1 ≤ s.used = let used = begins.used in omega (arith, used) in
    let least = (until_leaves start w refusal.Nothing begins.begins.2).least in
    subst (λ (o : Option FleetState). IfSome o (AreUnraisedAbove s.used)) (sym (in_world s.node w begins.begins.1))
    (made_unraised s.used start w below least (λ m above. refl))

recovery_unraised : (old new : Session) (line : LineValue) (a : Answer) → SessionRecovers old line new a
    → AreLaterUnraised old → AreLaterUnraised new
recovery_unraised old new line a r are = go r.ends where
  go : EndsFor old r.order new a → AreLaterUnraised new
  go (inl (known, ends)) = ends_unraised old.node new.node (later_options old.later old.options)
      (asked_of old r.order) new.used a new.master ends r.numbers.rises are
  go (inr (down, unknown, is, same)) = subst (λ (s : Session). AreLaterUnraised s) (sym same) are

-- any line leaves them
pub line_unraised : (old new : Session) (line : LineValue) (a : Answer) → RunsLine old line new a → (d : MasterData)
    (at : Position) → IsNodeAt old.node (config_of old.options old.master) d at → old.master ≤ old.used
    → AreLaterUnraised old → AreLaterUnraised new
line_unraised old new line a (inl r) d at s within are =
    subst (λ (n : ℕ). IfSome (fleet_of new.node) (AreUnraisedAbove n)) (sym r.used)
    (node_unraised old.used old.options.tend old.node line new.node a r.makes
    (stands_up_to old.used old.node (config_of old.options old.master) d at s within) are)
line_unraised old new line a (inr r) d at s within are = recovery_unraised old new line a r are
