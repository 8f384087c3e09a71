use Rattle.std.proofs.Common.{ap, subst, ◌∙◌}
use Rattle.backup.specs.State.{fleet_state}
use Rattle.answers.specs.driving.master.World.{world}
use Rattle.tending.specs.declared.policy.Policy.{Policy}
use Rattle.tending.specs.Low.{usual_for}
use Rattle.tending.specs.Tends.{TendsBehind}
use Rattle.cluster.proofs.BesideCleaner.{no_tending, reply_stays, stays_none, stays_up, up_tends}
use Rattle.cluster.proofs.Standing.{not_up}
use Rattle.cluster.proofs.node.Node.tend_on.Goals as goal

pub returns : goal.returns
returns c =
    let up = c.in-Up.up in
    let m = c.tend_behind.new.master in
    let tends : TendsBehind (usual_for up.knows.config) c.args.steps (world fleet_state up) c.tend_behind.result
    (world fleet_state m) =
    subst (λ (p : Policy). TendsBehind p c.args.steps (world fleet_state up) c.tend_behind.result
    (world fleet_state m)) (c.of-policy.ensures ∙ ap usual_for c.config.ensures) c.tend_behind.ensures.tends in
    record {
      stays = stays_up c.args.self.now up m c.in-Up.is c.tend_behind.ensures.goes_on c.show_valid-2.ensures;
      tends = up_tends c.args.self.now up m c.in-Up.is c.args.steps c.tend_behind.result tends;
      reply = reply_stays c.args.self.now up m c.in-Up.is c.tend_behind.ensures.goes_on;
    }

pub returns-in_default : goal.returns-in_default
returns-in_default c =
    let node = c.args.self.now in
    record {
      stays = stays_none node;
      tends = no_tending node c.args.steps (not_up node c.in_default.not-Up);
      reply = λ place reply at. at;
    }
