use Rattle.std.proofs.Common.{◌≡◌, refl, sym, ap, subst, ◌∙◌}
use Rattle.std.specs.Prelude.{Some}
use Rattle.backup.specs.State.{fleet_state}
use Rattle.backup.specs.declared.fleet.MemoryFleet.{MemoryFleet}
use Rattle.lines.specs.Grammar.{Stop}
use Rattle.answers.specs.driving.master.Invariant.{IsWellKept}
use Rattle.answers.specs.driving.master.World.{MasterValue}
use Rattle.answers.specs.driving.master.Valid.{IsValid}
use Rattle.answers.specs.driving.master.master_state.Data.{MasterData}
use Rattle.answers.proofs.of_driving.of_master.Retired.{limited_kept}
use Rattle.replica.specs.Picture.{FleetState}
use Rattle.replica.specs.Take.{limited}
use Rattle.answers.specs.declared.answer.Answer.TheVariants as answer
use Rattle.cluster.specs.declared.node.Node.{Node}
use Rattle.cluster.specs.declared.node.Node.TheVariants.{Down, Up}
use Rattle.cluster.specs.Served.{AnswersLine, LimitsFleet, IsOf}
use Rattle.cluster.proofs.Standing.{same_told}
use Rattle.cluster.proofs.WhatIsLeft.{same_picture}
use Rattle.cluster.proofs.node.Node.stop.Goals.{in-Up, in-Down, in-Changing}
use Rattle.cluster.proofs.node.Node.stop.Goals as goal

-- a master whose fleet is limited through its field
abbrev Over : Type 0
Over = MasterValue MemoryFleet

-- a limit changes no replica
pub invariant_of-up : goal.invariant_of-up
invariant_of-up c =
    let f : FleetState = fleet_state c.up.inside.fleet in
    subst (λ (h : FleetState). IsWellKept c.up.inside.core h) (sym c.limit.ensures.limited)
    (limited_kept c.up.inside.core f c.args.takes c.up.invariant)

pub returns-clause-told : goal.returns-clause-told
returns-clause-told c = λ config.
    elim c.match-self.branch as (λ _. AnswersLine c.args.self.now config (Stop c.args.takes) c.match-self.self
    (answer.Stop c.args.takes)) [
      | in-Up w ↦ rw w.self-is (same_told c.args.self.now
          (Up (record { knows = w.up.inside.core; fleet = w.limit.new.self })) config (Stop c.args.takes)
          (answer.Stop c.args.takes)
          (λ d left of.
          let was : IsOf (Up w.in-Up.up) left d = subst (λ (n : Node). IsOf n left d) w.in-Up.is of in
          let same : w.up.inside.core ≡ d = ap (λ (m : Over). m.knows) w.up.view_is ∙ was.1 in (
            was.0,
            same,
            subst (λ (x : MasterData). IsValid x (fleet_state w.limit.new.self)) same w.show_valid.ensures,
          ))
          (λ d at s. (refl, refl)))
      | in-Down w ↦ rw w.self-is (same_told c.args.self.now (Down w.limit-in-Down.new.self) config (Stop c.args.takes)
          (answer.Stop c.args.takes)
          (λ d left of.
          let was : IsOf (Down w.in-Down.fleet) left d = subst (λ (n : Node). IsOf n left d) w.in-Down.is of in (
            was.0,
            was.1,
            same_picture d was.0 (fleet_state w.in-Down.fleet) (fleet_state w.limit-in-Down.new.self)
                (ap (λ (f : FleetState). f.picture) w.limit-in-Down.ensures.limited)
                (ap (λ (f : FleetState). f.backups) w.limit-in-Down.ensures.limited)
                (ap (λ (f : FleetState). f.least) w.limit-in-Down.ensures.limited) was.2,
          ))
          (λ d at s. (refl, refl)))
      | in-Changing w ↦ λ d at s. absurd (subst (λ (n : Node). IsOf n at.left d) w.in-Changing.is s.node_of)
    ]

pub returns-clause-limited : goal.returns-clause-limited
returns-clause-limited c =
    elim c.match-self.branch as (λ _. LimitsFleet c.args.self.now c.args.takes c.match-self.self) [
      | in-Up w ↦
          let new : Over = record { knows = w.up.inside.core; fleet = w.limit.new.self } in
          let state : fleet_state w.limit.new.self ≡ limited (fleet_state w.in-Up.up.fleet) c.args.takes =
          w.limit.ensures.limited
          ∙ ap (λ (m : Over). limited (fleet_state m.fleet) c.args.takes) w.up.view_is in
          rw w.self-is (subst (λ (n : Node). LimitsFleet n c.args.takes (Up new)) (sym w.in-Up.is) (
            λ i. Some (record { knows = ap (λ (m : Over). m.knows) w.up.view_is i; fleet = state i }),
            ap Some state,
            ap Some (w.limit.ensures.asked ∙ ap (λ (m : Over). m.fleet.asked) w.up.view_is),
          ))
      | in-Down w ↦ rw w.self-is (subst (λ (n : Node). LimitsFleet n c.args.takes (Down w.limit-in-Down.new.self))
          (sym w.in-Down.is) (refl, ap Some w.limit-in-Down.ensures.limited, ap Some w.limit-in-Down.ensures.asked))
      | in-Changing w ↦ rw w.self-is (subst (λ (n : Node). LimitsFleet n c.args.takes n) (sym w.in-Changing.is)
          (refl, refl, refl))
    ]
