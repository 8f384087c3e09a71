use Rattle.std.proofs.Common.{ap, refl, subst}
use Rattle.backup.specs.State.{fleet_state}
use Rattle.history.specs.View.{shown_command}
use Rattle.answers.specs.driving.master.World.{world}
use Rattle.answers.specs.driving.master.master_state.Data.{MasterData}
use Rattle.cluster.specs.declared.node.Node.{Node}
use Rattle.cluster.specs.declared.node.Node.TheVariants.{Up}
use Rattle.answers.specs.driving.Served.{IsServed, IsUnserved}
use Rattle.cluster.specs.Served.{IsOf, is_up}
use Rattle.cluster.proofs.Commands.{reply_told}
use Rattle.cluster.proofs.Rolls.{unserved_told, waits_told}
use Rattle.cluster.proofs.Standing.{asks_master, down_told, is_up_none, not_up}
use Rattle.cluster.proofs.Tries.{not_tried, refused_try, replied_try, replied_at, waits_try}
use Rattle.cluster.proofs.node.Node.serve.Goals as goal

pub returns-in_default : goal.returns-in_default
returns-in_default c =
    let command = shown_command c.args.command.now in (
      λ config line asks. down_told c.args.self.now config line (not_up c.args.self.now c.in_default.not-Up)
          (asks_master line command asks),
      not_tried c.args.self.now command c.in_default.not-Up,
    )

pub returns-in-Ok : goal.returns-in-Ok
returns-in-Ok c =
    let command = shown_command c.args.command.now in
    let m = c.serve-outcome.new.master in
    let at = c.in-Ok.ensures.served in (
      at.reply,
      replied_at m c.in-Up.up.knows command c.in-Ok.place at.reply c.show_valid.ensures.history.within at.served
          at.place,
      (λ config line asks d pos s.
          let was : IsOf (Up c.in-Up.up) pos.left d = subst (λ (n : Node). IsOf n pos.left d) c.in-Up.is s.node_of in
          let served : IsServed d m.knows command at.reply =
          subst (λ (x : MasterData). IsServed x m.knows command at.reply) was.1 at.served in
          reply_told d m.knows c.args.self.now (Up m) config pos s
          (is_up_none c.args.self.now d pos.left (ap is_up c.in-Up.is) s.node_of)
          line command asks at.reply (refl, refl, c.show_valid-2.ensures) served),
      replied_try c.args.self.now c.in-Up.up m c.in-Up.is command at.reply at.tried,
    )

pub returns-in-Rolling : goal.returns-in-Rolling
returns-in-Rolling c =
    let command = shown_command c.args.command.now in
    let m = c.serve-outcome.new.master in
    let r = c.in-Err.refusal in (
      (λ config d at s.
          let was : IsOf (Up c.in-Up.up) at.left d = subst (λ (n : Node). IsOf n at.left d) c.in-Up.is s.node_of in
          let left : IsUnserved d command r (world fleet_state m) =
          subst (λ (x : MasterData). IsUnserved x command r (world fleet_state m)) was.1 c.in-Err.ensures.unserved in
          waits_told d m.knows c.args.self.now (Up m) config at s
          (is_up_none c.args.self.now d at.left (ap is_up c.in-Up.is) s.node_of)
          command r (fleet_state c.in-Up.up.fleet) (fleet_state m.fleet) was.2
          (refl, refl, c.show_valid-2.ensures) c.in-Rolling.is left),
      waits_try c.args.self.now c.in-Up.up m c.in-Up.is command r c.in-Rolling.is c.in-Err.ensures.tried,
    )

pub returns-in_default-refusal : goal.returns-in_default-refusal
returns-in_default-refusal c =
    let command = shown_command c.args.command.now in
    let m = c.serve-outcome.new.master in
    let r = c.in-Err.refusal in (
      refl,
      λ last answer refuses. (
        (λ config line asks d at s.
            let was : IsOf (Up c.in-Up.up) at.left d = subst (λ (n : Node). IsOf n at.left d) c.in-Up.is s.node_of in
            let left : IsUnserved d command r (world fleet_state m) =
            subst (λ (x : MasterData). IsUnserved x command r (world fleet_state m)) was.1 c.in-Err.ensures.unserved in
            unserved_told d m.knows c.args.self.now (Up m) last config at s
            (is_up_none c.args.self.now d at.left (ap is_up c.in-Up.is) s.node_of)
            line command asks r answer (fleet_state c.in-Up.up.fleet) (fleet_state m.fleet) was.2
            (refl, refl, c.show_valid-2.ensures) refl c.show_valid-2.ensures
            c.in-Err.ensures.spent left refuses),
        refused_try c.args.self.now c.in-Up.up m c.in-Up.is command r c.in_default-refusal.not-Rolling
            c.in-Err.ensures.tried last answer refuses,
      ),
    )
