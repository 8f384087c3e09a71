use Rattle.std.proofs.Common.{◌≡◌, ℕ, sym, subst}
use Rattle.std.specs.Prelude.{Err}
use Rattle.replica.specs.declared.op.TakeFault.{TakeFault}
use Rattle.replica.specs.Picture.{FleetState}
use Rattle.replica.specs.Retire.{Retires}
use Rattle.master_core.specs.master_state.Data.{MasterData}
use Rattle.master.specs.Invariant.{IsWellKept}
use Rattle.master.proofs.Retired.{of_master, retired_kept, halted_kept, going_on}
use Rattle.master.proofs.retiring.retire.Goals as goal

pub returns-in-Ok-clause-kept : goal.returns-in-Ok-clause-kept
returns-in-Ok-clause-kept g c =
    let d : MasterData = c.args.core.now in
    let f : FleetState = g.F.Fleet.state c.args.fleet.now in
    let after : FleetState = g.F.Fleet.state c.retire.new.self in
    retired_kept d f after c.retire.result c.requires.kept
    (of_master f after c.master.result d.config.master c.retire.result c.master.ensures c.retire.ensures.retires)

pub returns-in-Ok-clause-same : goal.returns-in-Ok-clause-same
returns-in-Ok-clause-same g c =
    let f : FleetState = g.F.Fleet.state c.args.fleet.now in
    let after : FleetState = g.F.Fleet.state c.retire.new.self in
    subst (λ (m : ℕ). (b s : ℕ) → after.picture b m s ≡ f.picture b m s) c.master.ensures c.retire.ensures.same

pub returns-in-Fault-clause-retires : goal.returns-in-Fault-clause-retires
returns-in-Fault-clause-retires g c =
    let d : MasterData = c.args.core.now in
    let f : FleetState = g.F.Fleet.state c.args.fleet.now in
    let after : FleetState = g.F.Fleet.state c.retire.new.self in
    subst (λ (e : TakeFault). Retires f d.config.master (Err e) after) c.in-Fault.is
    (of_master f after c.master.result d.config.master (Err c.in-Err.fault) c.master.ensures c.in-Err.ensures.retires)

pub returns-in-Fault-clause-same : goal.returns-in-Fault-clause-same
returns-in-Fault-clause-same g c =
    let f : FleetState = g.F.Fleet.state c.args.fleet.now in
    let after : FleetState = g.F.Fleet.state c.retire.new.self in
    subst (λ (m : ℕ). (b s : ℕ) → after.picture b m s ≡ f.picture b m s) c.master.ensures c.retire.ensures.same

pub returns-in-Fault-clause-kept : goal.returns-in-Fault-clause-kept
returns-in-Fault-clause-kept g c =
    let d : MasterData = c.args.core.now in
    let f : FleetState = g.F.Fleet.state c.args.fleet.now in
    let after : FleetState = g.F.Fleet.state c.retire.new.self in
    subst (λ (e : MasterData). IsWellKept e after) (sym c.halt.ensures.halted)
    (halted_kept d after (retired_kept d f after c.retire.result c.requires.kept
    (of_master f after c.master.result d.config.master c.retire.result c.master.ensures c.retire.ensures.retires)))

pub returns-in_default : goal.returns-in_default
returns-in_default g c =
    let d : MasterData = c.args.core.now in
    let f : FleetState = g.F.Fleet.state c.args.fleet.now in
    let after : FleetState = g.F.Fleet.state c.retire.new.self in
    let retires = of_master f after c.master.result d.config.master (Err c.in-Err.fault) c.master.ensures
    c.in-Err.ensures.retires in
    record {
      retires = retires;
      knows = going_on d c.in-Err.fault c.in_default.not-Fault;
      same = subst (λ (m : ℕ). (b s : ℕ) → after.picture b m s ≡ f.picture b m s) c.master.ensures
          c.in-Err.ensures.same;
      kept = retired_kept d f after (Err c.in-Err.fault) c.requires.kept retires;
    }
