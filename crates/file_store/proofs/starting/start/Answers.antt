use Rattle.std.proofs.Common.{◌≡◌, ◌∙◌, Some, ap, sym, subst}
use Rattle.replica.specs.Picture.{FleetState}
use Rattle.file_fleet.specs.Fleet.{FleetValue, fleet_state}
use Rattle.recovery.specs.master.Valid.{IsValid}
use Rattle.recovery.specs.master.World.{MasterValue}
use Rattle.recovery.specs.master.master_state.Data.{MasterData}
use Rattle.recovery.specs.master.master_state.declared.config.Config.{Config}
use Rattle.recovery.specs.replay.Adopting.{IsAdopted}
use Rattle.embedded.specs.Options.{config_of}
use Rattle.file_store.specs.Started.{IsStarted}
use Rattle.file_store.proofs.starting.start.Goals as goal

pub returns-in-Ok-name_master : goal.returns-in-Ok-name_master
returns-in-Ok-name_master g c =
    let core = c.master.inside.core in
    let table = c.args.table.now in
    let config = c.in_ok-config.config in
    let adopted : IsAdopted config table core =
    subst (λ (d : MasterData). IsAdopted config table d)
    (sym (ap (λ (m : MasterValue (FleetValue g.row.D.Denot g.row.R.Denot)). m.knows) c.master.view_is))
    c.in-Ok.ensures.adopted in
    let number : config.master ≡ core.config.master = ap (λ (k : Config). k.master) (sym adopted.config) in
    let valid : IsValid core (fleet_state g.R.FleetRegistry.noted c.master.inside.fleet) =
    subst (λ (m : MasterValue (FleetValue g.row.D.Denot g.row.R.Denot)).
    IsValid m.knows (fleet_state g.R.FleetRegistry.noted m.fleet)) (sym c.master.view_is) c.in-Ok.ensures.valid in
    subst (λ m. IsStarted g.R.FleetRegistry.noted c.args.options.now table m) (sym c.new.ensures)
    (record {
      adopted = subst (λ (k : Config). IsAdopted k table core)
          (c.in_ok-config.ensures.same ∙ ap (λ n. config_of c.args.options.now n) number) adopted;
      named = c.in-Ok-name_master.ensures.named ∙ ap (λ n. Some n) number;
      valid = subst (λ (f : FleetState). IsValid core f) (sym c.name_master.ensures.same) valid;
    })
