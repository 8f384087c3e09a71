use Rattle.std.proofs.Common.{◌≡◌, ◌++◌, List, length, inl, refl, sym, ap, subst, ◌∙◌}
use Rattle.std.specs.Prelude.{Ok, Err}
use Rattle.replica.specs.declared.spot.Spot.{Spot}
use Rattle.replica.specs.Retire.{FreesEach}
use Rattle.replica.proofs.Retiring.{frees_more, nothing_freed, retire_spares}
use Rattle.backup.specs.Faults.{nearer}
use Rattle.backup.specs.State.{fleet_state}
use Rattle.backup.proofs.Freeing.{after_none, after_itself, after_more, after_freed, freeing_met}
use Rattle.backup.proofs.Held.{of_err}
use Rattle.division.proofs.Taking.{taken_front, taken_all}
use Rattle.backup.proofs.fleet.MemoryFleetBench.retire.Goals as goal

pub loop-spot-init : goal.loop-spot-init
loop-spot-init c = record {
  freed = nothing_freed (fleet_state c.args.self.now);
  asked = after_none c.args.self.now.asked;
}

pub loop-spot-preserved : goal.loop-spot-preserved
loop-spot-preserved c = record {
  freed =
      frees_more (fleet_state c.args.self.now) (fleet_state c.loop-spot.self) (fleet_state c.take.new.self)
      c.loop-spot.yielded c.in-Some.spot c.loop-spot.invariant.freed c.in-Ok-take.ensures.gives;
  asked =
      c.in-Ok-take.ensures.faults.1 ∙ ap nearer c.loop-spot.invariant.asked
      ∙ after_more c.args.self.now.asked c.loop-spot.yielded c.in-Some.spot;
}

pub returns-in_default-clause-memory : goal.returns-in_default-clause-memory
returns-in_default-clause-memory c = λ is. (of_err c.others.result c.in_default.not-Ok c.others.ensures.memory, refl)

pub returns-in_default-clause-faults : goal.returns-in_default-clause-faults
returns-in_default-clause-faults c = after_itself c.args.self.now.asked c.args.self.now.takes

pub returns-in-Err-clause-memory : goal.returns-in-Err-clause-memory
returns-in-Err-clause-memory c = λ is. absurd (c.in-Err.ensures.memory is)

pub returns-in-Err-clause-faults : goal.returns-in-Err-clause-faults
returns-in-Err-clause-faults c =
    freeing_met c.args.self.now c.loop-spot.self c.take.new.self c.loop-spot.yielded c.in-Some.spot
    c.loop-spot.invariant.freed.takes c.loop-spot.invariant.asked c.in-Err.fault c.in-Err.ensures.faults
    c.in-Err.ensures.gives

pub returns-clause-memory : goal.returns-clause-memory
returns-clause-memory c = λ is. absurd (cc)

pub returns-clause-faults : goal.returns-clause-faults
returns-clause-faults c =
    let last = c.loop-spot in
    last.invariant.asked
    ∙ after_freed c.args.self.now.asked c.args.self.now.takes last.self.takes (length last.yielded)
    last.invariant.freed.takes

pub returns-in-Err-clause-retires : goal.returns-in-Err-clause-retires
returns-in-Err-clause-retires c =
    let all = c.into_iter-spot-iterator in
    inl (
      c.in-Ok.spots.items,
      c.in-Ok.ensures.others,
      record {
        front = c.loop-spot.yielded;
        next = c.in-Some.spot;
        rest = c.next.new.self.rest.items;
        split = sym all.ensures.into_iter_gives.0
            ∙ taken_front all.result c.loop-spot.yielded c.loop-spot.spot-iterator c.loop-spot.yielded_by
            ∙ ap (λ (xs : List Spot). c.loop-spot.yielded ++ xs) c.in-Some.ensures.steps.0;
        mid = fleet_state c.loop-spot.self;
        freed = c.loop-spot.invariant.freed;
        refused = c.in-Err.ensures.gives;
      },
    )

pub returns-in-Err-clause-same : goal.returns-in-Err-clause-same
returns-in-Err-clause-same c =
    (retire_spares (fleet_state c.args.self.now) (fleet_state c.take.new.self) c.args.keep (Err c.in-Err.fault)
    (returns-in-Err-clause-retires c)).same

pub returns-clause-retires : goal.returns-clause-retires
returns-clause-retires c =
    let all = c.into_iter-spot-iterator in
    let whole : c.in-Ok.spots.items ≡ c.loop-spot.yielded =
    sym all.ensures.into_iter_gives.0
    ∙ taken_all all.result c.loop-spot.yielded c.loop-spot.spot-iterator c.loop-spot.yielded_by
    c.in-None.ensures.steps.0
    in (
      c.in-Ok.spots.items,
      c.in-Ok.ensures.others,
      subst (λ (xs : List Spot). FreesEach (fleet_state c.args.self.now) xs (fleet_state c.loop-spot.self)) (sym whole)
          c.loop-spot.invariant.freed,
    )

pub returns-clause-same : goal.returns-clause-same
returns-clause-same c =
    (retire_spares (fleet_state c.args.self.now) (fleet_state c.loop-spot.self) c.args.keep (Ok tt)
    (returns-clause-retires c)).same
