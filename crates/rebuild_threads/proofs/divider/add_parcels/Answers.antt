use Rattle.std.proofs.Common.{◌∙◌, ◌++◌, List, map, ap, sym}
use Rattle.division.specs.declared.group.Group.{Group}
use Rattle.division.specs.Groups.{grouped}
use Rattle.rebuild_threads.proofs.Divided.{among_between, division_parcel}
use Rattle.division.proofs.Taking.{taken_front}
use Rattle.rebuild_threads.proofs.divider.add_parcels.Goals as goal

pub new-requires : goal.new-requires
new-requires g c =
    let all = c.into_iter-group-iterator in
    division_parcel g.D.Division.parts g.D.Division.segments c.args.at (map grouped c.args.groups.items)
    (grouped c.in-Some.group) c.requires.below c.requires.groups
    (among_between c.args.groups.items c.loop-group.yielded c.next.new.self.rest.items c.in-Some.group
    (sym all.ensures.into_iter_gives.0
    ∙ taken_front all.result c.loop-group.yielded c.loop-group.group-iterator c.loop-group.yielded_by
    ∙ ap (λ (gs : List Group). c.loop-group.yielded ++ gs) c.in-Some.ensures.steps.0))
