use Rattle.std.proofs.Common.{List, refl, sym, subst, inl}
use Rattle.entry.specs.declared.entry.Object.{Object}
use Rattle.lines.specs.Grammar.{Listing}
use Rattle.answers.specs.declared.answer.Answer.TheVariants as answer
use Rattle.answers.specs.driving.master.master_space.Objects.{AreObjectsOf}
use Rattle.answers.specs.driving.master.master_state.Data.{MasterData}
use Rattle.answers.specs.driving.master.master_state.Log.{state_now}
use Rattle.cluster.specs.declared.node.Node.{Node}
use Rattle.cluster.specs.declared.node.Node.TheVariants.{Up}
use Rattle.cluster.specs.Served.{IsOf}
use Rattle.cluster.specs.Shows.{ShowsObjects}
use Rattle.cluster.proofs.Downs.{objects_down}
use Rattle.cluster.proofs.Listed.{listed_at}
use Rattle.cluster.proofs.Standing.{down_told, not_up, stays_told}
use Rattle.cluster.proofs.node.Node.list.Goals as goal

pub returns-in_default : goal.returns-in_default
returns-in_default c =
    let node = c.args.self.now in
    let table = c.args.table in
    let down = not_up node c.in_default.not-Up in
    record { told = λ config. down_told node config (Listing table) down refl; shown = objects_down node table down }

pub returns-in-Ok-clause-told : goal.returns-in-Ok-clause-told
returns-in-Ok-clause-told c = λ config.
    let node = c.args.self.now in
    let table = c.args.table in
    let objects : List Object = c.new.result in
    let are : AreObjectsOf (state_now c.in-Up.up.knows).contents table objects =
    subst (AreObjectsOf (state_now c.in-Up.up.knows).contents table) (sym c.new.ensures) c.in-Ok.ensures in
    stays_told node config (Listing table) (answer.Listed objects) (λ d at s.
    let was : IsOf (Up c.in-Up.up) at.left d = subst (λ (n : Node). IsOf n at.left d) c.in-Up.is s.node_of in (
      was.0,
      (
        table,
        refl,
        listed_at node config d at table objects s
            (subst (λ (x : MasterData). AreObjectsOf (state_now x).contents table objects) was.1 are),
      ),
      refl,
    ))

pub returns-in-Ok-clause-shown : goal.returns-in-Ok-clause-shown
returns-in-Ok-clause-shown c =
    let table = c.args.table in
    let objects : List Object = c.new.result in
    let are : AreObjectsOf (state_now c.in-Up.up.knows).contents table objects =
    subst (AreObjectsOf (state_now c.in-Up.up.knows).contents table) (sym c.new.ensures) c.in-Ok.ensures in
    subst (λ (n : Node). ShowsObjects n table (answer.Listed objects)) (sym c.in-Up.is) (inl (objects, are, refl))
