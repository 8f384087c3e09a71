-- What a master leaves that a fault halted: the same as one that goes on.
use Rattle.std.specs.Prelude.{Some, Err}
use Rattle.backup.specs.State.{fleet_state}
use Rattle.replica.specs.declared.op.TakeFault.{TakeFault}
use Rattle.replica.specs.declared.op.TakeFault.TheVariants as take_fault
use Rattle.replica.specs.Picture.{FleetState}
use Rattle.cluster.specs.master.master_state.Data.{MasterData}
use Rattle.cluster.specs.master.master_state.Steps.{halted}
use Rattle.cluster.specs.master.Valid.{IsValid}
use Rattle.cluster.specs.master.World.{retired_data}
use Rattle.cluster.specs.declared.node.Node.{Node}
use Rattle.cluster.specs.declared.node.Node.TheVariants.{Up, Down, Changing}
use Rattle.cluster.specs.Lives.{Left, left_now}
use Rattle.cluster.specs.Served.{IsOf, IsLeftOf}

valid_halted : (d : MasterData) (f : FleetState) → IsValid (halted d) f → IsValid d f
valid_halted d f valid = record {
  config = valid.config;
  history = valid.history;
  legal = valid.legal;
  index = valid.index;
  safe = valid.safe;
  imaged = valid.imaged;
  budget = valid.budget;
  sound = valid.sound;
  newest = valid.newest;
  placed = record {
    none = valid.placed.none;
    head = valid.placed.head;
    counts = valid.placed.counts;
    unopened = valid.placed.unopened;
    whole = valid.placed.whole;
    new = valid.placed.new;
    shut = valid.placed.shut;
    closed = valid.placed.closed;
  };
  whole = valid.whole;
  survive = valid.survive;
  covered = valid.covered;
  durable = valid.durable;
  counted = valid.counted;
  pushed = valid.pushed;
}

pub valid_cut : (d : MasterData) (fault : TakeFault) (f : FleetState) → IsValid (retired_data (Err fault) d) f
    → IsValid d f
valid_cut d take_fault.NoMemory f valid = valid
valid_cut d take_fault.Wrong f valid = valid
valid_cut d take_fault.Fault f valid = valid_halted d f valid
valid_cut d take_fault.Spent f valid = valid

left_halted : (d : MasterData) (l : Left) (f : FleetState) → IsLeftOf (halted d) l f → IsLeftOf d l f
left_halted d l f of = record {
  crashed = of.crashed;
  valid = valid_halted d of.crashed of.valid;
  shown = of.shown;
  opened = of.opened;
  homes = of.homes;
  held = of.held;
  backups = of.backups;
  least = of.least;
}

of_halted : (d : MasterData) (f : FleetState) (new : Node) → IsOf new (Some (left_now (halted d) f)) (halted d)
    → IsOf new (Some (left_now d f)) d
of_halted d f (Up m) (none, knows, valid) = absurd (cc)
of_halted d f (Down fleet) (l, is, of) = (l, is, left_halted d l (fleet_state fleet) of)
of_halted d f Changing of = absurd of

pub left_cut : (d : MasterData) (fault : TakeFault) (f : FleetState) (new : Node)
    → IsOf new (Some (left_now (retired_data (Err fault) d) f)) (retired_data (Err fault) d)
    → IsOf new (Some (left_now d f)) d
left_cut d take_fault.NoMemory f new of = of
left_cut d take_fault.Wrong f new of = of
left_cut d take_fault.Fault f new of = of_halted d f new of
left_cut d take_fault.Spent f new of = of
