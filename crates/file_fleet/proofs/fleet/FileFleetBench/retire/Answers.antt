use Rattle.std.proofs.Common.{◌≡◌, ◌++◌, List, inl, sym, ap, subst, ◌∙◌}
use Rattle.std.specs.Prelude.{Ok, Err}
use Rattle.replica.specs.declared.spot.Spot.{Spot}
use Rattle.replica.specs.Retire.{FreesEach}
use Rattle.replica.proofs.Retiring.{frees_more, nothing_freed, retire_spares}
use Rattle.division.proofs.Taking.{taken_front, taken_all}
use Rattle.file_fleet.specs.Fleet.{fleet_state}
use Rattle.file_fleet.proofs.fleet.FileFleetBench.retire.Goals as goal

pub loop-spot-init : goal.loop-spot-init
loop-spot-init g c = nothing_freed (fleet_state g.R.FleetRegistry.noted c.args.self.now)

pub loop-spot-preserved : goal.loop-spot-preserved
loop-spot-preserved g c =
    frees_more (fleet_state g.R.FleetRegistry.noted c.args.self.now)
    (fleet_state g.R.FleetRegistry.noted c.loop-spot.self) (fleet_state g.R.FleetRegistry.noted c.take.new.self)
    c.loop-spot.yielded c.in-Some.spot c.loop-spot.invariant c.in-Ok-take.ensures.gives

pub returns-in-Err-clause-retires : goal.returns-in-Err-clause-retires
returns-in-Err-clause-retires g c =
    let all = c.into_iter-spot-iterator in
    inl (
      c.in-Ok.spots.items,
      c.in-Ok.ensures,
      record {
        front = c.loop-spot.yielded;
        next = c.in-Some.spot;
        rest = c.next.new.self.rest.items;
        split = sym all.ensures.into_iter_gives.0
            ∙ taken_front all.result c.loop-spot.yielded c.loop-spot.spot-iterator c.loop-spot.yielded_by
            ∙ ap (λ (xs : List Spot). c.loop-spot.yielded ++ xs) c.in-Some.ensures.steps.0;
        mid = fleet_state g.R.FleetRegistry.noted c.loop-spot.self;
        freed = c.loop-spot.invariant;
        refused = c.in-Err.ensures.gives;
      },
    )

pub returns-in-Err-clause-same : goal.returns-in-Err-clause-same
returns-in-Err-clause-same g c =
    (retire_spares (fleet_state g.R.FleetRegistry.noted c.args.self.now)
    (fleet_state g.R.FleetRegistry.noted c.take.new.self) c.args.keep (Err c.in-Err.fault)
    (returns-in-Err-clause-retires g c)).same

pub returns-clause-retires : goal.returns-clause-retires
returns-clause-retires g c =
    let all = c.into_iter-spot-iterator in
    let whole : c.in-Ok.spots.items ≡ c.loop-spot.yielded =
    sym all.ensures.into_iter_gives.0
    ∙ taken_all all.result c.loop-spot.yielded c.loop-spot.spot-iterator c.loop-spot.yielded_by
    c.in-None.ensures.steps.0
    in (
      c.in-Ok.spots.items,
      c.in-Ok.ensures,
      subst (λ (xs : List Spot). FreesEach (fleet_state g.R.FleetRegistry.noted c.args.self.now) xs
          (fleet_state g.R.FleetRegistry.noted c.loop-spot.self)) (sym whole) c.loop-spot.invariant,
    )

pub returns-clause-same : goal.returns-clause-same
returns-clause-same g c =
    (retire_spares (fleet_state g.R.FleetRegistry.noted c.args.self.now)
    (fleet_state g.R.FleetRegistry.noted c.loop-spot.self) c.args.keep (Ok tt)
    (returns-clause-retires g c)).same
