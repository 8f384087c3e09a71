use Rattle.std.proofs.Common.{inl, inr, refl, sym, ap, subst, max, ◌∙◌, arith}
use Rattle.std.specs.Prelude.{None, IfSome}
use Rattle.backup.specs.State.{fleet_state}
use Rattle.lines.specs.Grammar.{Recover}
use Rattle.lines.specs.declared.line.ReplayOrder.TheVariants.{Forward}
use Rattle.cluster.specs.master.Registry.{AreUnraisedAbove}
use Rattle.cluster.specs.master.master_state.declared.config.Config.{Config}
use Rattle.replica.specs.Picture.{FleetState}
use Rattle.cluster.specs.answers.declared.answer.Answer.TheVariants as answer
use Rattle.cluster.specs.declared.node.Node.{Node}
use Rattle.cluster.specs.declared.node.Node.TheVariants.{Down}
use Rattle.next_master.specs.Configuration.{config_of}
use Rattle.next_master.specs.Numbers.{AreSpent, IsNextNumber}
use Rattle.next_master.specs.Recoveries.{IsDeclined, IsTakenOver}
use Rattle.cluster.specs.Served.{AnswersLine, IsOf, fleet_of, world_of}
use Rattle.next_master.proofs.NextLife.{cut_told, declined_told, has_backups, not_of_cut}
use Rattle.next_master.proofs.NextLife.{not_of_refusal, recovered_told}
use Rattle.next_master.proofs.HowItEnds.{cut_over, down_on, taken_over, up_at}
use Rattle.cluster.proofs.Standing.{stays_told, up_told}
use Rattle.next_master.proofs.NextConfig.{checked_later}
use Rattle.next_master.proofs.recovering.recover_node.Goals as goal

pub returns-in_default : goal.returns-in_default
returns-in_default g c =
    let s = c.requires.stands in
    let old = config_of c.args.request.options c.args.request.master in
    let up = up_at c.args.node.now old s.0 s.1 c.in_default.not-Down s.2 in
    record {
      recovers = inl (refl, up_told c.args.node.now old (Recover c.args.order) up refl);
      ends = inl (up, refl, refl, refl, refl);
      numbers = record { rises = omega arith; fresh = inl refl };
      least = inl refl;
      spent = λ is. absurd (cc);
    }

pub returns-in-Err-clause-recovers : goal.returns-in-Err-clause-recovers
returns-in-Err-clause-recovers g c =
    let order = c.args.order in
    let old = config_of c.args.request.options c.args.request.master in
    inl (
      refl,
      subst (λ (n : Node). AnswersLine n old (Recover order) (Down c.in-Down.fleet) c.in-Err.answer) (sym c.in-Down.is)
          (stays_told (Down c.in-Down.fleet) old (Recover order) c.in-Err.answer
          (λ d at s. c.in-Err.ensures.none (Recover order) d at (inl (order, refl)) s)),
    )

pub find_inheritance-requires-clause-later : goal.find_inheritance-requires-clause-later
find_inheritance-requires-clause-later g c = λ κs outlive.
    subst (λ (n : Node). IfSome (fleet_of n) (AreUnraisedAbove c.args.request.used)) c.in-Down.is c.requires.later

pub adopt-requires-clause-config : goal.adopt-requires-clause-config
adopt-requires-clause-config g c =
    checked_later c.args.request.later c.args.request.options c.in-Ok.found.config c.in-Ok.ensures.found.configured
    c.requires.begins

pub adopt-requires-clause-fleet : goal.adopt-requires-clause-fleet
adopt-requires-clause-fleet g c =
    let s = c.requires.stands in
    let found = c.in-Ok.ensures.found in (
      c.in-Down.fleet,
      refl,
      has_backups c.in-Down.fleet c.args.request.options c.args.request.later c.args.request.master
          c.in-Ok.found.rebuilt c.in-Ok.found.config
          found c.args.node.now
          c.in-Down.is Forward s.0 s.1 s.2,
      found.unused,
      found.least,
    )

pub returns-in-Err-adopt-clause-recovers : goal.returns-in-Err-adopt-clause-recovers
returns-in-Err-adopt-clause-recovers g c =
    let order = c.args.order in
    inl (
      refl,
      declined_told c.in-Down.fleet c.args.request.options c.args.request.later c.args.request.master
          c.in-Ok.found.rebuilt c.in-Ok.found.config
          c.in-Ok.ensures.found
          c.args.node.now c.in-Down.is order c.adopt.new.node c.in-Err-adopt.answer
          (c.in-Err-adopt.ensures c.in-Down.fleet refl),
    )

pub returns-in-Ok-retire-clause-recovers : goal.returns-in-Ok-retire-clause-recovers
returns-in-Ok-retire-clause-recovers g c =
    let order = c.args.order in
    let a = c.in_default-adopt.ensures c.in-Down.fleet refl in
    inr (recovered_told c.in-Down.fleet c.args.request.options c.args.request.later c.args.request.master
    c.in-Ok.found.rebuilt c.in-Ok.found.config
    c.in-Ok.ensures.found
    c.args.node.now c.in-Down.is order a.0.knows a.2 c.retire.new.node
    (c.in-Ok-retire.ensures.others a.0.knows (subst (λ (n : Node). IsOf n None a.0.knows) (sym a.1) (refl, refl, a.3))))

pub returns-in-Err-retire-clause-recovers : goal.returns-in-Err-retire-clause-recovers
returns-in-Err-retire-clause-recovers g c =
    let order = c.args.order in
    let a = c.in_default-adopt.ensures c.in-Down.fleet refl in
    inr (cut_told c.in-Down.fleet c.args.request.options c.args.request.later c.args.request.master
    c.in-Ok.found.rebuilt c.in-Ok.found.config
    c.in-Ok.ensures.found
    c.args.node.now c.in-Down.is order a.0.knows a.2 c.retire.new.node c.in-Err-retire.answer
    (c.in-Err-retire.ensures.others a.0.knows (subst (λ (n : Node). IsOf n None a.0.knows) (sym a.1)
    (refl, refl, a.3))))

pub returns-in-Err-clause-numbers : goal.returns-in-Err-clause-numbers
returns-in-Err-clause-numbers g c = record { rises = omega arith; fresh = inl refl }

pub returns-in-Err-adopt-clause-numbers : goal.returns-in-Err-adopt-clause-numbers
returns-in-Err-adopt-clause-numbers g c = let above = c.in-Ok.ensures.fresh in
    record { rises = omega arith; fresh = inl refl }

pub returns-in-Ok-retire-clause-numbers : goal.returns-in-Ok-retire-clause-numbers
returns-in-Ok-retire-clause-numbers g c = let above = c.in-Ok.ensures.fresh in
    record { rises = omega arith; fresh = inr (above, refl) }

pub returns-in-Err-retire-clause-numbers : goal.returns-in-Err-retire-clause-numbers
returns-in-Err-retire-clause-numbers g c = let above = c.in-Ok.ensures.fresh in
    record { rises = omega arith; fresh = inr (above, refl) }

pub returns-in-Err-clause-spent : goal.returns-in-Err-clause-spent
returns-in-Err-clause-spent g c = λ is.
    subst (λ (n : Node). IfSome (fleet_of n) (λ (f : FleetState). AreSpent
    (max c.args.request.master c.args.request.used) f.picture))
    (sym c.in-Down.is)
    (c.in-Err.ensures.spent is)

pub returns-in-Err-adopt-clause-spent : goal.returns-in-Err-adopt-clause-spent
returns-in-Err-adopt-clause-spent g c = λ is.
    let refused = c.in-Err-adopt.ensures c.in-Down.fleet refl in
    absurd (not_of_refusal refused.why (sym refused.told ∙ is))

pub returns-in-Ok-retire-clause-spent : goal.returns-in-Ok-retire-clause-spent
returns-in-Ok-retire-clause-spent g c = λ is. absurd (cc)

pub returns-in-Err-retire-clause-spent : goal.returns-in-Err-retire-clause-spent
returns-in-Err-retire-clause-spent g c = λ is.
    let a = c.in_default-adopt.ensures c.in-Down.fleet refl in
    absurd (not_of_cut a.0.knows c.retire.new.node c.in-Err-retire.answer
    (c.in-Err-retire.ensures.others a.0.knows (subst (λ (n : Node). IsOf n None a.0.knows) (sym a.1)
    (refl, refl, a.3))) is)

pub returns-in-Err-clause-least : goal.returns-in-Err-clause-least
returns-in-Err-clause-least g c = inl refl

pub returns-in-Err-adopt-clause-least : goal.returns-in-Err-adopt-clause-least
returns-in-Err-adopt-clause-least g c = inr
    (subst (λ (n : Node). IfSome (fleet_of n) (λ (f : FleetState). IsNextNumber
    (max c.args.request.master c.args.request.used) f.picture c.in-Ok.found.config.master))
    (sym c.in-Down.is) c.in-Ok.ensures.least)

pub returns-in-Ok-retire-clause-least : goal.returns-in-Ok-retire-clause-least
returns-in-Ok-retire-clause-least g c = inr
    (subst (λ (n : Node). IfSome (fleet_of n) (λ (f : FleetState). IsNextNumber
    (max c.args.request.master c.args.request.used) f.picture c.in-Ok.found.config.master))
    (sym c.in-Down.is) c.in-Ok.ensures.least)

pub returns-in-Err-retire-clause-least : goal.returns-in-Err-retire-clause-least
returns-in-Err-retire-clause-least g c = inr
    (subst (λ (n : Node). IfSome (fleet_of n) (λ (f : FleetState). IsNextNumber
    (max c.args.request.master c.args.request.used) f.picture c.in-Ok.found.config.master))
    (sym c.in-Down.is) c.in-Ok.ensures.least)

pub returns-in-Err-clause-ends : goal.returns-in-Err-clause-ends
returns-in-Err-clause-ends g c = inr (
  fleet_state c.in-Down.fleet,
  down_on c.args.node.now c.in-Down.fleet c.in-Down.is,
  inl (c.in-Err.ensures.nothing, sym c.in-Down.is, refl, refl),
)

pub returns-in-Err-adopt-clause-ends : goal.returns-in-Err-adopt-clause-ends
returns-in-Err-adopt-clause-ends g c =
    let f = fleet_state c.in-Down.fleet in
    let r = c.in-Ok.found.rebuilt in
    inr (
      f,
      down_on c.args.node.now c.in-Down.fleet c.in-Down.is,
      inr (
        r,
        c.in-Ok.ensures.rebuilt,
        c.in-Ok.ensures.least,
        inl (
          subst (λ (k : Config). IsDeclined f r k c.adopt.new.node c.in-Err-adopt.answer)
              c.in-Ok.ensures.found.configured
              (c.in-Err-adopt.ensures c.in-Down.fleet refl),
          refl,
        ),
      ),
    )

pub returns-in-Ok-retire-clause-ends : goal.returns-in-Ok-retire-clause-ends
returns-in-Ok-retire-clause-ends g c =
    let f = fleet_state c.in-Down.fleet in
    let r = c.in-Ok.found.rebuilt in
    let a = c.in_default-adopt.ensures c.in-Down.fleet refl in
    inr (
      f,
      down_on c.args.node.now c.in-Down.fleet c.in-Down.is,
      inr (
        r,
        c.in-Ok.ensures.rebuilt,
        c.in-Ok.ensures.least,
        inr (
          subst (λ (k : Config). IsTakenOver f r k c.retire.new.node (answer.Recovered r))
              c.in-Ok.ensures.found.configured
              (taken_over f r c.in-Ok.found.config a.0 a.2 a.4 c.retire.new.node
              (c.in-Ok-retire.ensures.frees _ (ap world_of a.1))),
          refl,
        ),
      ),
    )

pub returns-in-Err-retire-clause-ends : goal.returns-in-Err-retire-clause-ends
returns-in-Err-retire-clause-ends g c =
    let f = fleet_state c.in-Down.fleet in
    let r = c.in-Ok.found.rebuilt in
    let a = c.in_default-adopt.ensures c.in-Down.fleet refl in
    let told = c.in-Err-retire.answer in
    inr (
      f,
      down_on c.args.node.now c.in-Down.fleet c.in-Down.is,
      inr (
        r,
        c.in-Ok.ensures.rebuilt,
        c.in-Ok.ensures.least,
        inr (
          subst (λ (k : Config). IsTakenOver f r k c.retire.new.node told) c.in-Ok.ensures.found.configured
              (cut_over f r c.in-Ok.found.config a.0 a.2 a.4 c.retire.new.node told
              (c.in-Err-retire.ensures.frees _ (ap world_of a.1))),
          refl,
        ),
      ),
    )
