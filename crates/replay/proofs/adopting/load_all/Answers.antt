use Rattle.std.proofs.Common.{rules, ◌++◌, ◌∷◌, [], refl, sym, subst, ◌∙◌}
use Rattle.entry.specs.View.{shown_object}
use Rattle.driving.specs.master.World.{world}
use Rattle.replay.specs.Adopting.{Stops}
use Rattle.replay.specs.Fresh.{AreNew}
use Rattle.replay.proofs.LoadList.{new_first, new_rest, done_more, stops_in_list, list_loaded, list_stopped}
use Rattle.replay.proofs.LoadSteps.{one_keeps, loads_more}
use Rattle.replay.proofs.adopting.load_all.Goals as goal

pub load_one-requires : goal.load_one-requires
load_one-requires g c =
    new_first c.loop-object.loading.knows (shown_object c.in-Some.object) c.loop-object.object-iterator c.next.new.self
    c.in-Some.ensures.steps c.loop-object.invariant.3

pub returns-in_err-load_one-clause-stopped : goal.returns-in_err-load_one-clause-stopped
returns-in_err-load_one-clause-stopped g c =
    let before = world g.F.Fleet.state c.args.loading.now in
    let now = world g.F.Fleet.state c.loop-object.loading in
    let after = world g.F.Fleet.state c.load_one.new.loading in
    let r = c.in_err-load_one.field-0.0 in
    let stops : Stops c.args.objects.now before r after =
    stops_in_list c.args.objects.now c.loop-object.invariant.0 c.loop-object.object-iterator c.next.new.self
    (shown_object c.in-Some.object)
    before now after r c.in-Some.ensures.steps c.loop-object.invariant.1 c.loop-object.invariant.2
    c.in_err-load_one.ensures.stopped in
    search (rules, stops)

pub loop-object-preserved : goal.loop-object-preserved
loop-object-preserved g c =
    let done = c.loop-object.invariant.0 in
    let o = shown_object c.in-Some.object in
    let left = c.loop-object.object-iterator in
    let rest = c.next.new.self in
    let before = world g.F.Fleet.state c.args.loading.now in
    let now = world g.F.Fleet.state c.loop-object.loading in
    let after = world g.F.Fleet.state c.load_one.new.loading in
    let one = c.in_ok-load_one.ensures.loaded in (
      done ++ o ∷ [],
      done_more done left rest c.args.objects.now o c.in-Some.ensures.steps c.loop-object.invariant.1,
      loads_more done o before now after c.loop-object.invariant.2 one,
      new_rest o left rest now after c.in-Some.ensures.steps (one_keeps o now after one) c.loop-object.invariant.3,
    )

pub returns-clause-loaded : goal.returns-clause-loaded
returns-clause-loaded g c =
    list_loaded c.args.objects.now c.loop-object.invariant.0 c.loop-object.object-iterator
    (world g.F.Fleet.state c.args.loading.now) (world g.F.Fleet.state c.loop-object.loading)
    (world g.F.Fleet.state c.push_all.new.master) c.in-None.ensures.steps.0 c.loop-object.invariant.1
    c.loop-object.invariant.2
    c.push_all.result c.push_all.ensures.pushed

pub returns-clause-stopped : goal.returns-clause-stopped
returns-clause-stopped g c =
    list_stopped c.args.objects.now c.loop-object.invariant.0 c.loop-object.object-iterator
    (world g.F.Fleet.state c.args.loading.now) (world g.F.Fleet.state c.loop-object.loading)
    (world g.F.Fleet.state c.push_all.new.master) c.in-None.ensures.steps.0 c.loop-object.invariant.1
    c.loop-object.invariant.2
    c.push_all.result c.push_all.ensures.refused c.push_all.ensures.waits

pub loop-object-init : goal.loop-object-init
loop-object-init g c =
    let first = c.into_iter-object-iterator.ensures.into_iter_gives ∙ c.iter-object-items.ensures in
    ([], first, refl, subst (AreNew c.args.loading.now.knows) (sym first) c.requires)
