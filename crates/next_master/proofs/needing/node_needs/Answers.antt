use Rattle.std.proofs.Common.{inl, inr, refl, sym, subst}
use Rattle.std.specs.Prelude.{IfSome}
use Rattle.backup.specs.State.{fleet_state}
use Rattle.lines.specs.Grammar.{Needs}
use Rattle.lines.specs.declared.line.ReplayOrder.TheVariants.{Forward}
use Rattle.cluster.specs.master.Registry.{AreUnraisedAbove}
use Rattle.cluster.specs.master.master_state.declared.config.Config.{Config}
use Rattle.cluster.specs.answers.declared.answer.Answer.TheVariants as answer
use Rattle.cluster.specs.declared.node.Node.{Node}
use Rattle.cluster.specs.declared.node.Node.TheVariants.{Down}
use Rattle.cluster.specs.Served.{AnswersLine, fleet_of}
use Rattle.cluster.specs.Found.{NeedsFor}
use Rattle.cluster.proofs.Standing.{stays_told, up_told}
use Rattle.next_master.specs.Configuration.{config_of, later_options}
use Rattle.next_master.specs.Recoveries.{asked_for}
use Rattle.next_master.proofs.HowItEnds.{down_on, up_at}
use Rattle.next_master.proofs.NextConfig.{checked_later}
use Rattle.next_master.proofs.WhatIsNeeded.{needs_for, needs_told, nothing_needs}
use Rattle.next_master.proofs.needing.node_needs.Goals as goal

pub returns-in_default : goal.returns-in_default
returns-in_default g c =
    let s = c.requires.stands in
    let old = config_of c.args.request.options c.args.request.master in
    let up = up_at c.args.node.now old s.0 s.1 c.in_default.not-Down s.2 in
    record { told = up_told c.args.node.now old Needs up refl; shown = inl (up, refl) }

pub find_inheritance-requires-clause-later : goal.find_inheritance-requires-clause-later
find_inheritance-requires-clause-later g c = λ κs outlive.
    subst (λ (n : Node). IfSome (fleet_of n) (AreUnraisedAbove c.args.request.used)) c.in-Down.is c.requires.later

pub seglets_needed-requires : goal.seglets_needed-requires
seglets_needed-requires g c =
    checked_later c.args.request.later c.args.request.options c.in-Ok.found.config c.in-Ok.ensures.found.configured
    c.requires.begins

pub returns-in-Ok-clause-told : goal.returns-in-Ok-clause-told
returns-in-Ok-clause-told g c =
    let old = config_of c.args.request.options c.args.request.master in
    let found = c.in-Ok.found in
    let needed = c.seglets_needed.result in
    let needs = needs_for found.config found.rebuilt needed c.seglets_needed.ensures.enough
    c.seglets_needed.ensures.none in
    subst (λ (n : Node). AnswersLine n old Needs n (answer.Needs needed)) (sym c.in-Down.is)
    (stays_told (Down c.in-Down.fleet) old Needs (answer.Needs needed)
    (needs_told c.in-Down.fleet c.args.request.options c.args.request.later c.args.request.master found.rebuilt
    found.config c.in-Ok.ensures.found needed needs))

pub returns-in-Ok-clause-shown : goal.returns-in-Ok-clause-shown
returns-in-Ok-clause-shown g c =
    let found = c.in-Ok.found in
    let needed = c.seglets_needed.result in
    let needs = needs_for found.config found.rebuilt needed c.seglets_needed.ensures.enough
    c.seglets_needed.ensures.none in
    inr (
      fleet_state c.in-Down.fleet,
      down_on c.args.node.now c.in-Down.fleet c.in-Down.is,
      (
        found.rebuilt,
        c.in-Ok.ensures.rebuilt,
        found.config.master,
        c.in-Ok.ensures.least,
        subst (λ (k : Config). NeedsFor k found.rebuilt needed) c.in-Ok.ensures.found.configured needs,
      ),
    )

pub returns-in-Err-clause-told : goal.returns-in-Err-clause-told
returns-in-Err-clause-told g c =
    let old = config_of c.args.request.options c.args.request.master in
    subst (λ (n : Node). AnswersLine n old Needs n c.in-Err.answer) (sym c.in-Down.is)
    (stays_told (Down c.in-Down.fleet) old Needs c.in-Err.answer
    (λ d at s. c.in-Err.ensures.none Needs d at (inr refl) s))

pub returns-in-Err-clause-shown : goal.returns-in-Err-clause-shown
returns-in-Err-clause-shown g c = inr (
  fleet_state c.in-Down.fleet,
  down_on c.args.node.now c.in-Down.fleet c.in-Down.is,
  nothing_needs (fleet_state c.in-Down.fleet) (later_options c.args.request.later c.args.request.options)
      (asked_for c.args.request c.args.will.now Forward) c.in-Err.answer c.in-Err.ensures.nothing,
)
