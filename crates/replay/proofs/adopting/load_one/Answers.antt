use Rattle.std.proofs.Common.{◌<◌, ap, refl, subst}
use Rattle.std.proofs.lemmas.Result.{err_from_is_err_and}
use Rattle.entry.specs.View.{shown_object}
use Rattle.driving.specs.master.World.{world}
use Rattle.driving.proofs.Losses.{left_to_push}
use Rattle.replay.proofs.LoadList.{new_still, load_not_nothing, load_same, room_kept, one_loaded, one_declined}
use Rattle.replay.proofs.LoadList.{more_room, no_room}
use Rattle.replay.proofs.LoadRoom.{rolled_fewer}
use Rattle.replay.proofs.adopting.load_one.Goals as goal

pub load_object-requires : goal.load_object-requires
load_object-requires g c =
    let before = world g.F.Fleet.state c.args.loading.now in
    let now = world g.F.Fleet.state c.loop-refusal.loading in
    record {
      object = new_still (shown_object c.args.object.now) before now
          (room_kept (shown_object c.args.object.now) before now c.loop-refusal.invariant) c.requires;
    }

pub loop-refusal-init : goal.loop-refusal-init
loop-refusal-init g c = (0, refl)

pub returns-in-Ok-clause-loaded : goal.returns-in-Ok-clause-loaded
returns-in-Ok-clause-loaded g c =
    one_loaded _ _ _ _ c.loop-refusal.invariant c.in-Ok.ensures.loaded (ap g.F.Fleet.state c.in-Ok.ensures.fleet)

pub loop-refusal-preserved : goal.loop-refusal-preserved
loop-refusal-preserved g c =
    more_room _ _ _ _ _ c.in-Err.refusal c.loop-refusal.invariant c.in-Err.ensures.refused
    (ap g.F.Fleet.state c.in-Err.ensures.fleet)
    c.in-Rolling.is c.in_ok-roll_all-in-Rolling.ensures.rolled

pub loop-refusal-smaller : goal.loop-refusal-smaller
loop-refusal-smaller g c =
    let now = world g.F.Fleet.state c.loop-refusal.loading in
    let mid = world g.F.Fleet.state c.load_object.new.self in
    let after = world g.F.Fleet.state c.roll_all.new.master in
    subst (λ w. left_to_push after < left_to_push w)
    (load_same (shown_object c.args.object.now) now mid c.in-Err.refusal c.in-Err.ensures.refused
    (ap g.F.Fleet.state c.in-Err.ensures.fleet))
    (rolled_fewer after.knows.head.id mid after c.in_ok-roll_all-in-Rolling.ensures.rolled)

pub returns-in_err-roll_all-in-Rolling-clause-stopped : goal.returns-in_err-roll_all-in-Rolling-clause-stopped
returns-in_err-roll_all-in-Rolling-clause-stopped g c =
    let failed = err_from_is_err_and c.from_residual.result c.from_residual.ensures.1 in
    rw (failed.1, failed.2)
    (no_room _ _ _ _ _ c.in-Err.refusal c.loop-refusal.invariant c.in-Err.ensures.refused
    (ap g.F.Fleet.state c.in-Err.ensures.fleet) c.in-Rolling.is _ c.in_err-roll_all-in-Rolling.ensures.refused)

pub returns-in_default : goal.returns-in_default
returns-in_default g c =
    let now = world g.F.Fleet.state c.loop-refusal.loading in
    let after = world g.F.Fleet.state c.load_object.new.self in
    record {
      loaded = tt;
      stopped = (
        one_declined _ _ _ _ _ c.loop-refusal.invariant c.in-Err.ensures.refused
            (ap g.F.Fleet.state c.in-Err.ensures.fleet),
        (
          c.in_default.not-Rolling,
          load_not_nothing (shown_object c.args.object.now) now.knows after.knows c.in-Err.refusal
              c.in-Err.ensures.refused,
        ),
      );
    }
