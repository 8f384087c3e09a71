use Rattle.std.proofs.Common.{◌≡◌, List, suc, max, ap, subst, ◌∙◌}
use Rattle.backup.specs.State.{fleet_state}
use Rattle.command_line.specs.declared.settings.Options.{Options}
use Rattle.next_master.specs.master.master_state.declared.config.Config.{Config}
use Rattle.replica.specs.declared.holding.Holding.{Holding}
use Rattle.next_master.specs.Numbers.{greatest_of}
use Rattle.next_master.proofs.NextLife.{next_unused}
use Rattle.store_lines.proofs.succession.next_config.Goals as goal

pub fitting-requires-clause-records : goal.fitting-requires-clause-records
fitting-requires-clause-records c =
    ap (λ (k : Config). k.history) c.in-Ok.ensures.config
    ∙ ap (λ (o : Options). o.history) c.later_options.ensures

pub fitting-requires-clause-unused : goal.fitting-requires-clause-unused
fitting-requires-clause-unused c =
    let number = ap (λ (k : Config). k.master) c.in-Ok.ensures.config in
    let next : c.in-Some.number ≡ suc (max c.args.greatest (greatest_of c.args.inventory.now)) =
    subst (λ (hs : List Holding). c.in-Some.number ≡ suc (max c.args.greatest (greatest_of hs)))
    c.as_slice.ensures c.in-Some.ensures.next in
    next_unused c.args.inventory.now (fleet_state c.args.fleet.now).picture c.args.greatest c.in-Ok.config.master
    c.requires (number ∙ next)
