use Rattle.std.proofs.Common.{ap, subst, ◌∙◌}
use Rattle.std.specs.Prelude.{Ok, Err}
use Rattle.backup.specs.State.{fleet_state}
use Rattle.answers.specs.driving.master.World.{world}
use Rattle.tending.specs.declared.policy.Policy.{Policy}
use Rattle.tending.specs.Low.{usual_for}
use Rattle.tending.specs.Rounds.{MakesRound}
use Rattle.cluster.proofs.BesideCleaner.{gained_room, no_room, refused_room, stays_none, stays_up}
use Rattle.cluster.proofs.Standing.{not_up}
use Rattle.cluster.proofs.node.Node.gain.Goals as goal

pub returns-in-Ok : goal.returns-in-Ok
returns-in-Ok c =
    let up = c.in-Up.up in
    let m = c.make_room-outcome.new.master in
    let round : MakesRound (usual_for up.knows.config) (world fleet_state up) (Ok c.in-Ok.gained)
    (world fleet_state m) =
    subst (λ (p : Policy). MakesRound p (world fleet_state up) (Ok c.in-Ok.gained) (world fleet_state m))
    (c.of-policy.ensures ∙ ap usual_for c.config.ensures) c.in-Ok.ensures.round in
    record {
      stays = stays_up c.args.self.now up m c.in-Up.is c.in-Ok.ensures.goes_on c.show_valid-2.ensures;
      gains = gained_room c.args.self.now up m c.in-Up.is c.in-Ok.gained round;
    }

pub returns-in-Err : goal.returns-in-Err
returns-in-Err c =
    let up = c.in-Up.up in
    let m = c.make_room-outcome.new.master in
    let r = c.in-Err.field-0 in
    let round : MakesRound (usual_for up.knows.config) (world fleet_state up) (Err r) (world fleet_state m) =
    subst (λ (p : Policy). MakesRound p (world fleet_state up) (Err r) (world fleet_state m))
    (c.of-policy.ensures ∙ ap usual_for c.config.ensures) c.in-Err.ensures.round in
    record {
      stays = stays_up c.args.self.now up m c.in-Up.is c.in-Err.ensures.goes_on c.show_valid-2.ensures;
      gains = refused_room c.args.self.now up m c.in-Up.is r round;
    }

pub returns-in_default : goal.returns-in_default
returns-in_default c =
    let node = c.args.self.now in
    record { stays = stays_none node; gains = no_room node (not_up node c.in_default.not-Up) }
