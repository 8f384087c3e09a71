use Rattle.std.proofs.Common.{ap, refl}
use Rattle.driving.specs.master.World.{world}
use Rattle.replay.proofs.AdoptedList.{adopted_is, adopts, all_done, adopted_from, stops_spent}
use Rattle.replay.proofs.FullForFault.{full_at}
use Rattle.replay.proofs.LoadList.{new_list}
use Rattle.replay.proofs.LoadSteps.{all_keeps, stops_adopts}
use Rattle.replay.proofs.adopting.adopt_list.Goals as goal

pub load_all-requires : goal.load_all-requires
load_all-requires g c =
    new_list c.args.config c.args.rebuilt.now c.in-Ok.loading.knows c.args.rebuilt.now.objects
    c.in-Ok.ensures.made.0 refl

pub unreachable-requires : goal.unreachable-requires
unreachable-requires g c =
    let now = world g.F.Fleet.state c.load_all.new.loading in
    let done = all_done c.args.rebuilt.now.objects (world g.F.Fleet.state c.in-Ok.loading) now
    c.in-Ok-load_all.ensures.loaded in
    let lags = c.in-Err-finish.ensures.lags in cc

pub returns-in-Ok-finish-clause-adopted : goal.returns-in-Ok-finish-clause-adopted
returns-in-Ok-finish-clause-adopted g c =
    adopted_is c.args.config c.args.rebuilt.now c.args.rebuilt.now.objects (world g.F.Fleet.state c.in-Ok.loading)
    (world g.F.Fleet.state c.load_all.new.loading) c.in-Ok-finish.master.knows c.in-Ok.ensures.made.0 refl
    c.in-Ok-load_all.ensures.loaded c.in-Ok-finish.ensures.settled.0

pub returns-in-Ok-finish-clause-steps : goal.returns-in-Ok-finish-clause-steps
returns-in-Ok-finish-clause-steps g c =
    adopts c.args.config c.args.rebuilt.now c.args.rebuilt.now.objects _ (world g.F.Fleet.state c.in-Ok.loading)
    (world g.F.Fleet.state c.load_all.new.loading) _ c.in-Ok.ensures.made.0
    (ap g.F.Fleet.state c.in-Ok.ensures.made.1) refl
    c.in-Ok-load_all.ensures.loaded c.in-Ok-finish.ensures.settled.0
    (ap g.F.Fleet.state c.in-Ok-finish.ensures.settled.1)

pub returns-in-Ok-finish-clause-fleet : goal.returns-in-Ok-finish-clause-fleet
returns-in-Ok-finish-clause-fleet g c =
    let start = world g.F.Fleet.state c.in-Ok.loading in
    let now = world g.F.Fleet.state c.load_all.new.loading in
    adopted_from c.args.config c.args.rebuilt.now.safe start _ now.fleet _ c.in-Ok.ensures.made.0
    (ap g.F.Fleet.state c.in-Ok.ensures.made.1)
    (all_keeps c.args.rebuilt.now.objects start now c.in-Ok-load_all.ensures.loaded).fleet
    (ap g.F.Fleet.state c.in-Ok-finish.ensures.settled.1)

pub returns-in-Err-load_all-clause-left : goal.returns-in-Err-load_all-clause-left
returns-in-Err-load_all-clause-left g c =
    let start = world g.F.Fleet.state c.in-Ok.loading in
    let now = world g.F.Fleet.state c.load_all.new.loading in
    adopted_from c.args.config c.args.rebuilt.now.safe start _ now.fleet _ c.in-Ok.ensures.made.0
    (ap g.F.Fleet.state c.in-Ok.ensures.made.1)
    (stops_adopts c.args.rebuilt.now.objects start now c.in-Err-load_all.refusal c.in-Err-load_all.ensures.stopped)
    (ap g.F.Fleet.state c.crash.ensures)

pub returns-in-Err-load_all-clause-spent : goal.returns-in-Err-load_all-clause-spent
returns-in-Err-load_all-clause-spent g c = λ is.
    let start = world g.F.Fleet.state c.in-Ok.loading in
    let now = world g.F.Fleet.state c.load_all.new.loading in
    rw c.crash.ensures
    (stops_spent c.args.rebuilt.now.objects start now c.in-Err-load_all.refusal c.in-Err-load_all.ensures.stopped is)

pub returns-in-Err-load_all-clause-full : goal.returns-in-Err-load_all-clause-full
returns-in-Err-load_all-clause-full g c = λ is can.
    let start = world g.F.Fleet.state c.in-Ok.loading in
    let now = world g.F.Fleet.state c.load_all.new.loading in
    full_at c.args.config c.args.rebuilt.now start now _ _ c.in-Err-load_all.refusal c.requires.config
    c.in-Ok.ensures.made.0 (ap g.F.Fleet.state c.in-Ok.ensures.made.1) c.in-Err-load_all.ensures.stopped
    (ap g.F.Fleet.state c.crash.ensures) is can
