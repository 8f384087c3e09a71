use Rattle.std.proofs.Common.{◌≡◌, ◌++◌, ◌∷◌, List, Option, sym, ap, ◌∙◌}
use Rattle.division.proofs.Taking.{taken_all, taken_front}
use Rattle.file_fleet.specs.declared.member.Member.{Member}
use Rattle.file_fleet.proofs.Kept.{on_ok}
use Rattle.fleet_start.proofs.Places.{items_more, next_fits}
use Rattle.fleet_start.proofs.found.Found.into_members.Goals as goal

pub add-requires-clause-member : goal.add-requires-clause-member
add-requires-clause-member g c =
    let all = c.into_iter-place-iterator in
    (next_fits g.D.Device.contents g.D.Device.may_leave g.D.Device.has_failed g.R.FleetRegistry.noted
    g.R.FleetRegistry.is_sound c.args.self.places.items c.args.self.registry c.requires.found
    c.loop-place.members.list.items c.loop-place.yielded _ c.in-Some.place c.in-Some-place.member
    c.loop-place.members.registry
    (sym all.ensures.into_iter_gives.0
    ∙ taken_front all.result c.loop-place.yielded c.loop-place.place-iterator c.loop-place.yielded_by
    ∙ ap (λ (ps : List (Option (Member g.row.D.Denot))). c.loop-place.yielded ++ ps) c.in-Some.ensures.steps.0)
    c.in-Some-place.is c.loop-place.invariant.items c.loop-place.invariant.registry).member

pub add-requires-clause-under : goal.add-requires-clause-under
add-requires-clause-under g c =
    let all = c.into_iter-place-iterator in
    (next_fits g.D.Device.contents g.D.Device.may_leave g.D.Device.has_failed g.R.FleetRegistry.noted
    g.R.FleetRegistry.is_sound c.args.self.places.items c.args.self.registry c.requires.found
    c.loop-place.members.list.items c.loop-place.yielded _ c.in-Some.place c.in-Some-place.member
    c.loop-place.members.registry
    (sym all.ensures.into_iter_gives.0
    ∙ taken_front all.result c.loop-place.yielded c.loop-place.place-iterator c.loop-place.yielded_by
    ∙ ap (λ (ps : List (Option (Member g.row.D.Denot))). c.loop-place.yielded ++ ps) c.in-Some.ensures.steps.0)
    c.in-Some-place.is c.loop-place.invariant.items c.loop-place.invariant.registry).under

pub add-requires-clause-named : goal.add-requires-clause-named
add-requires-clause-named g c =
    let all = c.into_iter-place-iterator in
    (next_fits g.D.Device.contents g.D.Device.may_leave g.D.Device.has_failed g.R.FleetRegistry.noted
    g.R.FleetRegistry.is_sound c.args.self.places.items c.args.self.registry c.requires.found
    c.loop-place.members.list.items c.loop-place.yielded _ c.in-Some.place c.in-Some-place.member
    c.loop-place.members.registry
    (sym all.ensures.into_iter_gives.0
    ∙ taken_front all.result c.loop-place.yielded c.loop-place.place-iterator c.loop-place.yielded_by
    ∙ ap (λ (ps : List (Option (Member g.row.D.Denot))). c.loop-place.yielded ++ ps) c.in-Some.ensures.steps.0)
    c.in-Some-place.is c.loop-place.invariant.items c.loop-place.invariant.registry).named

pub loop-place-preserved : goal.loop-place-preserved
loop-place-preserved g c = record {
  safe = c.add.ensures.safe;
  items =
      items_more c.loop-place.members.list.items c.add.new.self.list.items c.in-Some-place.member
      c.loop-place.yielded c.in-Some.place c.loop-place.invariant.items
      (on_ok c.add.result _ (sym c.is_err.ensures.value ∙ c.if-is_err.false) c.add.ensures.added)
      c.in-Some-place.is;
  registry = c.add.ensures.registry ∙ c.loop-place.invariant.registry;
  goes_on = c.add.ensures.same ∙ c.loop-place.invariant.goes_on;
}

pub returns-clause-members : goal.returns-clause-members
returns-clause-members g c =
    let all = c.into_iter-place-iterator in
    c.loop-place.invariant.items
    ∙ sym (sym all.ensures.into_iter_gives.0
    ∙ taken_all all.result c.loop-place.yielded c.loop-place.place-iterator c.loop-place.yielded_by
    c.in-None.ensures.steps.0)
