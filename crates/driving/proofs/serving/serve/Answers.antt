use Rattle.std.proofs.Common.{inr}
use Rattle.history.specs.View.{shown_command}
use Rattle.master.specs.master_state.Steps.{reply_now}
use Rattle.master.specs.World.{world}
use Rattle.driving.proofs.MasterSteps.{applied_goes_on, spent_command}
use Rattle.driving.proofs.Tries.{served_at, cut_short}
use Rattle.driving.proofs.serving.serve.Goals as goal

pub returns-in-Err-clause-spent : goal.returns-in-Err-clause-spent
returns-in-Err-clause-spent g c = λ is. absurd (spent_command _ _ _ _ c.in-Err.ensures.refused is)

pub returns-in-Ok-push_until-clause-served : goal.returns-in-Ok-push_until-clause-served
returns-in-Ok-push_until-clause-served g c =
    let command = shown_command c.args.command.now in
    let state = g.F.Fleet.state in
    served_at (world state c.args.master.now) (world state c.accept.new.self) (world state c.push_until.new.master)
    command c.in-Ok.place (reply_now c.args.master.now.knows command) c.in-Ok.ensures.applied c.accept.ensures.keeps
    c.push_until.ensures.goes_on c.in-Ok-push_until.ensures.durable c.in-Ok-push_until.ensures.pushed

pub returns-in-Err-push_until-clause-unserved : goal.returns-in-Err-push_until-clause-unserved
returns-in-Err-push_until-clause-unserved g c =
    let command = shown_command c.args.command.now in
    let reply = reply_now c.args.master.now.knows command in
    let before = world g.F.Fleet.state c.args.master.now in
    let mid = world g.F.Fleet.state c.accept.new.self in
    let e = c.in-Err-push_until in
    inr (record {
      reply = reply;
      place = c.in-Ok.place;
      mid = mid;
      applied = (applied_goes_on before mid command c.in-Ok.place reply c.in-Ok.ensures.applied
          c.accept.ensures.keeps).0;
      valid = c.accept.ensures.valid;
      goes_on = c.push_until.ensures.goes_on;
      pushed = e.ensures.refused;
      waits = e.ensures.waits;
    })

pub returns-in-Err-push_until-clause-tried : goal.returns-in-Err-push_until-clause-tried
returns-in-Err-push_until-clause-tried g c =
    let command = shown_command c.args.command.now in
    cut_short _ _ _ command c.in-Ok.place (reply_now c.args.master.now.knows command) c.in-Err-push_until.refusal
    c.in-Ok.ensures.applied c.in-Err-push_until.ensures.refused
