use Rattle.std.proofs.Common.{◌≡◌, List, false, sym, subst, ◌∙◌}
use Rattle.std.specs.Prelude.{◌==◌}
use Rattle.std.specs.List.{list_any}
use Rattle.backup.specs.State.{fleet_state}
use Rattle.replica.specs.declared.holding.Holding.{Holding}
use Rattle.master_tests.proofs.Unused.{none_held}
use Rattle.master_tests.proofs.adoptions.config_on.Goals as goal

pub returns-clause-none : goal.returns-clause-none
returns-clause-none c =
    let master = c.in_ok-config.config.master in
    none_held c.in-Ok.inventory (fleet_state c.args.fleet.now).picture master c.in-Ok.ensures.shown
    (subst (λ (hs : List Holding). list_any (λ (h : Holding). h.master == master) hs ≡ false) c.as_slice.ensures
    (sym c.has_replica.ensures ∙ c.if-has_replica.false))
