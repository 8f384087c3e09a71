use Rattle.std.proofs.Common.{◌≡◌, refl, sym, ap, subst, ◌∙◌}
use Rattle.std.specs.Prelude.{Some}
use Rattle.backup.specs.State.{fleet_state}
use Rattle.backup.specs.declared.fleet.MemoryFleet.{MemoryFleet}
use Rattle.lines.specs.Grammar.{Fault}
use Rattle.answers.specs.driving.master.World.{MasterValue}
use Rattle.answers.specs.driving.master.Valid.{IsValid}
use Rattle.answers.specs.driving.master.master_state.Data.{MasterData}
use Rattle.replica.specs.Picture.{FleetState}
use Rattle.answers.specs.declared.answer.Answer.TheVariants as answer
use Rattle.cluster.specs.declared.node.Node.{Node}
use Rattle.cluster.specs.declared.node.Node.TheVariants.{Down, Up}
use Rattle.cluster.specs.Served.{AnswersLine, AsksFault, IsOf}
use Rattle.cluster.proofs.Standing.{same_told}
use Rattle.cluster.proofs.WhatIsLeft.{same_picture}
use Rattle.cluster.proofs.node.Node.fault.Goals.{in-Up, in-Down, in-Changing}
use Rattle.cluster.proofs.node.Node.fault.Goals as goal

-- a master that is asked through its field
abbrev Over : Type 0
Over = MasterValue MemoryFleet

pub returns-clause-told : goal.returns-clause-told
returns-clause-told c = λ config.
    elim c.match-self.branch as (λ _. AnswersLine c.args.self.now config (Fault c.args.takes c.args.taken)
    c.match-self.self
    (answer.Fault c.args.takes c.args.taken)) [
      | in-Up w ↦ rw w.self-is (same_told c.args.self.now
          (Up (record { knows = w.up.inside.core; fleet = w.fault_at.new.self })) config
          (Fault c.args.takes c.args.taken) (answer.Fault c.args.takes c.args.taken)
          (λ d left of.
          let was : IsOf (Up w.in-Up.up) left d = subst (λ (n : Node). IsOf n left d) w.in-Up.is of in
          let same : w.up.inside.core ≡ d = ap (λ (m : Over). m.knows) w.up.view_is ∙ was.1 in (
            was.0,
            same,
            subst (λ (x : MasterData). IsValid x (fleet_state w.fault_at.new.self)) same w.show_valid.ensures,
          ))
          (λ d at s. (refl, refl)))
      | in-Down w ↦ rw w.self-is (same_told c.args.self.now (Down w.fault_at-in-Down.new.self) config
          (Fault c.args.takes c.args.taken)
          (answer.Fault c.args.takes c.args.taken)
          (λ d left of.
          let was : IsOf (Down w.in-Down.fleet) left d = subst (λ (n : Node). IsOf n left d) w.in-Down.is of in (
            was.0,
            was.1,
            same_picture d was.0 (fleet_state w.in-Down.fleet) (fleet_state w.fault_at-in-Down.new.self)
                (ap (λ (f : FleetState). f.picture) w.fault_at-in-Down.ensures.same)
                (ap (λ (f : FleetState). f.backups) w.fault_at-in-Down.ensures.same)
                (ap (λ (f : FleetState). f.least) w.fault_at-in-Down.ensures.same) was.2,
          ))
          (λ d at s. (refl, refl)))
      | in-Changing w ↦ λ d at s. absurd (subst (λ (n : Node). IsOf n at.left d) w.in-Changing.is s.node_of)
    ]

pub returns-clause-same : goal.returns-clause-same
returns-clause-same c =
    elim c.match-self.branch as (λ _. AsksFault c.args.self.now c.args.takes c.args.taken c.match-self.self) [
      | in-Up w ↦
          let new : Over = record { knows = w.up.inside.core; fleet = w.fault_at.new.self } in
          let state : fleet_state w.fault_at.new.self ≡ fleet_state w.in-Up.up.fleet =
          w.fault_at.ensures.same ∙ ap (λ (m : Over). fleet_state m.fleet) w.up.view_is in
          rw w.self-is (subst (λ (n : Node). AsksFault n c.args.takes c.args.taken (Up new)) (sym w.in-Up.is) (
            λ i. Some (record { knows = ap (λ (m : Over). m.knows) w.up.view_is i; fleet = state i }),
            ap Some state,
            ap Some w.fault_at.ensures.asked,
          ))
      | in-Down w ↦ rw w.self-is (subst (λ (n : Node). AsksFault n c.args.takes c.args.taken
          (Down w.fault_at-in-Down.new.self))
          (sym w.in-Down.is) (refl, ap Some w.fault_at-in-Down.ensures.same, ap Some w.fault_at-in-Down.ensures.asked))
      | in-Changing w ↦ rw w.self-is (subst (λ (n : Node). AsksFault n c.args.takes c.args.taken n)
          (sym w.in-Changing.is)
          (refl, refl, refl))
    ]
