use Rattle.std.proofs.Common.{[], ◌≡◌, ◌∙◌, ap, inr, refl, sym, subst}
use Rattle.std.specs.Prelude.{None, Some, Option, unwrap_or}
use Rattle.std.specs.Option.{option_map}
use Rattle.backup.specs.State.{fleet_state}
use Rattle.answers.specs.driving.master.Valid.{IsValid}
use Rattle.answers.specs.driving.master.World.{World}
use Rattle.answers.specs.driving.master.log_laws.Data.{homes}
use Rattle.answers.specs.driving.master.log_bytes.Choice.{newest_opened}
use Rattle.answers.specs.driving.master.master_state.Data.{MasterData}
use Rattle.answers.specs.driving.master.master_state.Log.{log_of}
use Rattle.replica.specs.Picture.{FleetState, Shown, shown_of}
use Rattle.replica.specs.Take.{limited, no_limit}
use Rattle.cluster.specs.declared.node.Node.{Node}
use Rattle.cluster.specs.declared.node.Node.TheVariants.{Up}
use Rattle.cluster.specs.Served.{IsOf, fleet_of}
use Rattle.cluster.proofs.node.Node.refuse.Goals as goal

pub returns-in-Up : goal.returns-in-Up
returns-in-Up c = inr (
  refl,
  c.in-Spent.is,
  λ d f of fleet.
      let limited = c.limit.new.self in
      let was : IsOf (Up c.in-Up.up) None d = subst (λ (n : Node). IsOf n None d) c.in-Up.is of in
      let held = sym (ap fleet_of c.in-Up.is) ∙ fleet in
      let same : limited.knows ≡ d = ap (λ (w : World). w.knows) c.limit.ensures.limited ∙ was.1 in
      let shown : shown_of (fleet_state limited.fleet) d.config.master ≡ shown_of f d.config.master =
      ap (λ (w : World). shown_of w.fleet d.config.master) c.limit.ensures.limited
      ∙ ap (λ (o : Option FleetState). shown_of (unwrap_or o f) d.config.master) held in
      let valid = subst (λ (x : MasterData). IsValid x (fleet_state limited.fleet)) same c.limit.ensures.valid in
      subst (λ (s : Shown). IsOf c.drop_master.new.self (Some
      (record { shown = s; opened = newest_opened (log_of d); homes = homes (log_of d); lost = [] })) d) shown
      (c.drop_master.ensures.left d (fleet_state limited.fleet) (refl, same, valid) refl),
  (
    c.drop_master.ensures.down,
    c.drop_master.ensures.fleet ∙ ap (λ (w : World). Some w.fleet) c.limit.ensures.limited
        ∙ ap (λ (n : Node). option_map (λ (f : FleetState). limited f no_limit) (fleet_of n)) (sym c.in-Up.is),
  ),
)
