use Rattle.std.proofs.Common.{[], ap, refl, subst}
use Rattle.std.specs.Prelude.{Err, None}
use Rattle.backup.specs.State.{fleet_state}
use Rattle.answers.specs.driving.master.World.{world}
use Rattle.lines.specs.Grammar.{Roll}
use Rattle.answers.specs.driving.master.master_state.Data.{MasterData}
use Rattle.cluster.specs.declared.node.Node.{Node}
use Rattle.cluster.specs.declared.node.Node.TheVariants.{Up}
use Rattle.answers.specs.driving.Rolls.{IsNotRolled}
use Rattle.answers.specs.driving.Served.{LivesOn}
use Rattle.cluster.specs.Served.{IsOf, is_up}
use Rattle.cluster.proofs.Rolls.{no_step_told}
use Rattle.cluster.proofs.Standing.{is_up_none, not_up}
use Rattle.cluster.specs.Told.{RollRuns}
use Rattle.cluster.proofs.Steps.{refused_left, run_at}
use Rattle.cluster.proofs.Downs.{down_open, down_room}
use Rattle.cluster.proofs.node.Node.make_room.Goals as goal

pub returns-in-Err-clause-told : goal.returns-in-Err-clause-told
returns-in-Err-clause-told c = λ config d at s.
    let m = c.roll_all-outcome.new.master in
    let r = c.in-Err.refusal in
    let f = fleet_state c.in-Up.up.fleet in
    let g = fleet_state m.fleet in
    let none = is_up_none c.args.self.now d at.left (ap is_up c.in-Up.is) s.node_of in
    let was : IsOf (Up c.in-Up.up) at.left d = subst (λ (n : Node). IsOf n at.left d) c.in-Up.is s.node_of in
    let on : LivesOn d m.knows [] = subst (λ (x : MasterData). LivesOn x m.knows []) was.1 c.in-Err.ensures.goes_on in
    let refused : IsNotRolled (record { knows = d; fleet = f }) r (record { knows = m.knows; fleet = g }) =
    subst (λ (x : MasterData). IsNotRolled (record { knows = x; fleet = f }) r (record { knows = m.knows; fleet = g }))
    was.1 c.in-Err.ensures.refused in
    let of : IsOf (Up m) None m.knows = (refl, refl, c.show_valid.ensures) in
    let why = run_at d m.knows c.args.self.now (Up m) config at s none of f g was.2 c.show_valid.ensures on
    RollRuns (Err r) refused in
    no_step_told d m.knows c.args.self.now (Up m) c.refuse.new.self config at s none Roll
    r c.refuse.result g of refl c.show_valid.ensures c.in-Err.ensures.spent (λ is. refl) on why c.refuse.ensures

pub returns-in-Err-clause-rolled : goal.returns-in-Err-clause-rolled
returns-in-Err-clause-rolled c =
    let m = c.roll_all-outcome.new.master in
    let left = refused_left (Up m) c.refuse.new.self (world fleet_state m) c.in-Err.refusal c.refuse.result refl refl
    c.refuse.ensures in
    rw c.in-Up.is (c.in-Err.refusal, world fleet_state m, c.in-Err.ensures.refused, left.0, left.1)

pub returns-in_default : goal.returns-in_default
returns-in_default c =
    let node = c.args.self.now in
    let down = not_up node c.in_default.not-Up in
    record { told = λ config. down_room node config down; rolled = down_open node down }
