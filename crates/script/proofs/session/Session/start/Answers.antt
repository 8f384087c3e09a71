use Rattle.std.proofs.Common.{[], ◌≡◌, Bool, true, false, List, ◌++◌, length, refl, sym, ap, subst, ◌∙◌, arith}
use Rattle.std.specs.Prelude.{is_none, ◌&&◌}
use Rattle.backup.specs.State.{fleet_state}
use Rattle.next_master.specs.master.log_head.Head.{is_open}
use Rattle.next_master.specs.master.World.{World, world}
use Rattle.next_master.specs.master.master_state.Budget.{is_working}
use Rattle.next_master.specs.master.master_state.declared.step.Refusal.TheVariants.{Nothing}
use Rattle.next_master.specs.master.master_state.Data.{MasterData, fresh_data}
use Rattle.next_master.specs.Configuration.{config_of}
use Rattle.next_master.specs.driving.Rolls.{PushesUntil}
use Rattle.script.specs.Sessions.{new_world}
use Rattle.versioned_map.specs.declared.command.Record.{Record}
use Rattle.script.proofs.Sessions.{ok_of_no_err}
use Rattle.replica.specs.Picture.{FleetState}
use Rattle.script.proofs.session.Session.start.Goals as goal

-- a head that takes appends is open
open_of : (opened calm : Bool) → opened && calm ≡ true → opened ≡ true
open_of true calm is = refl
open_of false calm is = is

pub new-requires-2-clause-none : goal.new-requires-2-clause-none
new-requires-2-clause-none c = λ b s. ap (λ (f : FleetState). f.picture b c.in_ok-config.config.master s)
    c.in_ok-fleet.ensures.new

pub new-requires-2-clause-least : goal.new-requires-2-clause-least
new-requires-2-clause-least c = ap (λ (f : FleetState). f.least c.in_ok-config.config.master) c.in_ok-fleet.ensures.new

pub returns : goal.returns
returns c =
    let m = c.push_all.new.master in
    let new = c.in-Ok.ensures.made.0 in
    let on = c.push_all.ensures.goes_on in
    let config = c.in_ok-config.ensures.config in
    let working : is_working m.knows ≡ true =
    ok_of_no_err c.push_all.result (is_working m.knows ≡ true)
    (sym c.is_err.ensures.value ∙ c.if-is_err.false) c.push_all.ensures.open in
    let pushed : PushesUntil (world fleet_state c.in-Ok.master) Nothing (world fleet_state m) =
    ok_of_no_err c.push_all.result _ (sym c.is_err.ensures.value ∙ c.if-is_err.false) c.push_all.ensures.pushed in
    let first : world fleet_state c.in-Ok.master ≡ new_world (config_of c.args.options.now 1) = λ i. record {
      knows = (new ∙ ap fresh_data config) i;
      fleet = (ap fleet_state c.in-Ok.ensures.made.1 ∙ c.in_ok-fleet.ensures.new) i;
    } in
    record {
      stands = (
        m.knows,
        record {
          node_of = (refl, refl, c.show_valid.ensures);
          configured = on.config ∙ ap (λ (d : MasterData). d.config) new ∙ config;
          made = ap (λ (h : List Record). length h) (sym (on.history ∙ ap (λ (d : MasterData). d.history ++ []) new));
          acknowledged = omega arith;
        },
        open_of (is_open m.knows.head) (is_none m.knows.failover) working,
        on.origin ∙ ap (λ (d : MasterData). d.origin) new,
      );
      begins = (
        world fleet_state m,
        refl,
        subst (λ (w : World). PushesUntil w Nothing
            (world fleet_state m)) first pushed,
      );
      number = refl;
      used = refl;
      set = refl;
      covers = c.in_ok-will.ensures.covers;
      will = c.in_ok-will.ensures.whole;
      known = refl;
      later = c.none.ensures;
    }
